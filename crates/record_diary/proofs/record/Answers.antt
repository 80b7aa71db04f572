-- `record_diary::record` meets its contract: a record of a known kind, and whole.
use Rattle.std.proofs.Common.{◌≡◌, ℕ, ◌+◌, ◌-◌, ◌<◌, List, get_or, refl, true, arith}
use borrow.Author.Tests.{lt-leb, ne_eqb}
use Rattle.timeline.specs.declared.ResourceTimeline.{ResourceTimeline}
use Rattle.record_bodies.specs.Bodies.{diary_len}
use Rattle.record_diary.specs.declared.DiaryStepped.{DiaryStepped}
use Rattle.record_diary.specs.Records.{stepped_of, turn_of, record_does, turn_reply}
use Rattle.record_diary.proofs.record.Goals as goal

goes : (t : ResourceTimeline) (bs : List ℕ) (i n k m : ℕ) (s : DiaryStepped) → k ≡ get_or bs i 0 → i < n → m ≡ diary_len k → 0 < m → m < n - i
    → stepped_of s ≡ record_does t k bs (i + 1) → turn_of (record { state = s.timeline; reply = s.line; at = i + 1 + m; more = true }) ≡ turn_reply t bs i n
unfolding turn_reply turn_of stepped_of
goes t bs i n k m s q h l z o e =
    let z' : diary_len k ≡ 0 → ⊥ = λ w. omega arith in
    let o' : diary_len k < n - i = omega arith in
    rw (← q, lt-leb n i h, ne_eqb (diary_len k) 0 z', lt-leb (n - i) (diary_len k) o', ← e, ← l) refl

pub returns-clause-result_value : goal.returns-clause-result_value
returns-clause-result_value c =
    goes _ _ _ _ _ _ c.step-line.result c.in-Ok.ensures (omega arith) c.len-n.ensures.0 c.len-n.ensures.1 (omega arith) c.step-line.ensures
