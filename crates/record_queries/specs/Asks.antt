-- The asks of the runs beside the Rust, kinds 40 to 43.
use Rattle.std.specs.Prelude.{ℕ, ◌+◌, ◌-◌, true, false, cond, not, List, [], ◌∷◌, ◌==◌, nat_le, nat_lt, Option, Some, None}
use Rattle.calendar.specs.Limits.{longest_duration}
use Rattle.calendar.specs.Refusals.{refused_or}
use Rattle.record_bodies.specs.Numbers.{little}
use Rattle.activity.specs.declared.ResourceRequirement.{ResourceRequirement}
use Rattle.activity.specs.Check.{DurationReply, lasts, refused, duration_reply}
use Rattle.activity.specs.Serving.{serves}
use Rattle.board.specs.declared.Board.{Board}
use Rattle.board.specs.Resources.{resource_at, lookup, on_board}
use Rattle.board.specs.Places.{place_of}
use Rattle.board.specs.Setups.{setup_ms}
use Rattle.board.specs.Transport.{transport_to}
use Rattle.board.specs.Valid.{valid}
use Rattle.record_desk.specs.declared.Desk.{Desk}
use Rattle.record_board.specs.Replies.{DeskStepped}
use Rattle.record_queries.specs.Replies.{QueryTurn, QueryAnswer, Nothing as Silent, Lasts, Setup, Transport, Serves, No, Refused}
use Rattle.record_bodies.specs.Bodies.{byte, whole, body_len}
use Rattle.record_board.specs.Records.{step_reply}

-- 15 a board that breaks the rules; 5 a number that is not on it
unfoldable pub place_refusal : Board → ℕ → ℕ
place_refusal b number = cond (not (valid b)) 15 (cond (not (on_board b number)) 5 0)

unfoldable pub duration_line : DurationReply → QueryAnswer
duration_line (lasts d) = Lasts d.setup d.process d.teardown
duration_line (refused n) = Refused n

-- a category that was last; above 15 for none
unfoldable pub last_of : ℕ → Option ℕ
last_of category = cond (nat_lt 15 category) None (Some category)

-- 5 a category above 15; 1 a setup above 2^36
unfoldable pub setup_reply : Board → ℕ → ℕ → ℕ → ℕ → QueryAnswer
setup_reply b number last category own =
    refused_or Refused (place_refusal b number)
    (cond (nat_lt 15 category) (Refused 5)
    (cond (nat_lt longest_duration own) (Refused 1)
    (Setup (setup_ms (resource_at b (place_of (lookup b number))).matrix (last_of last) category own))))

unfoldable pub transport_reply : Board → ℕ → ℕ → QueryAnswer
transport_reply b origins to = refused_or Refused (place_refusal b to) (Transport (transport_to b origins to))

unfoldable pub serves_reply : Board → ResourceRequirement → ℕ → QueryAnswer
serves_reply b q number =
    refused_or Refused (place_refusal b number)
    (cond (serves q number (resource_at b (place_of (lookup b number))).kind (resource_at b (place_of (lookup b number))).skills) Serves No)

abbrev pub held_at : List ℕ → ℕ → List ℕ
held_at bs i =
    byte bs i ∷ byte bs (i + 1) ∷ byte bs (i + 2) ∷ byte bs (i + 3)
    ∷ byte bs (i + 4) ∷ byte bs (i + 5) ∷ byte bs (i + 6) ∷ byte bs (i + 7) ∷ []

-- 40 count, eight numbers (1 each); 41 number, last, category (1 each), own setup (8); 42 come from (2), to (1); 43 type (1), candidates
-- (2), skills (8), number (1). 0 for another kind
unfoldable pub ask_len : ℕ → ℕ
ask_len kind = cond (kind == 40) 9 (cond (kind == 41) 11 (cond (kind == 42) 3 (cond (kind == 43) 12 0)))

-- quantity and usage play no part in serving
abbrev requirement_of : List ℕ → ℕ → ResourceRequirement
requirement_of bs i = record { kind = byte bs i; candidates = little bs (i + 1) 2; skills = little bs (i + 3) 8; quantity = 1; usage = 1 }

unfoldable pub ask_reply : Desk → ℕ → List ℕ → ℕ → QueryAnswer
ask_reply d kind bs i =
    cond (kind == 40) (duration_line (duration_reply d.activity (held_at bs (i + 1)) (byte bs i)))
    (cond (kind == 41) (setup_reply d.board (byte bs i) (byte bs (i + 1)) (byte bs (i + 2)) (little bs (i + 3) 8))
    (cond (kind == 42) (transport_reply d.board (little bs i 2) (byte bs (i + 2)))
    (serves_reply d.board (requirement_of bs i) (byte bs (i + 11)))))

-- the body of a record or of an ask: 0 for an unknown kind or a cut body
unfoldable pub run_len : ℕ → List ℕ → ℕ → ℕ → ℕ
run_len kind bs i n = cond (ask_len kind == 0) (body_len kind bs i n) (whole (n - i) (ask_len kind))

-- a refusal is told, and 9 ends the stream
unfoldable pub told : DeskStepped → ℕ → QueryTurn
told s i =
    cond (s.refusal == 0) (record { desk = s.desk; answer = Silent; at = i; more = true })
    (record { desk = s.desk; answer = Refused s.refusal; at = i; more = not (s.refusal == 9) })

unfoldable pub ends : Desk → QueryAnswer → ℕ → QueryTurn
ends d answer i = record { desk = d; answer = answer; at = i; more = false }

-- the record that begins at index i, the input ending at index n
unfoldable pub turn_reply : Desk → List ℕ → ℕ → ℕ → QueryTurn
turn_reply d bs i n =
    cond (nat_le n i) (ends d Silent i)
    (cond (run_len (byte bs i) bs (i + 1) n == 0) (ends d (Refused 9) i)
    (cond (nat_lt (byte bs i) 40) (told (step_reply d (byte bs i) bs (i + 1)) (i + 1 + run_len (byte bs i) bs (i + 1) n))
    (record { desk = d; answer = ask_reply d (byte bs i) bs (i + 1); at = i + 1 + run_len (byte bs i) bs (i + 1) n; more = true })))
