-- The marked runs M1 to M12 on the definitions: one theorem over one list.
use Rattle.std.specs.Prelude.{◌≡◌, refl, false, List, [], ◌∷◌, ◌++◌, map, ℕ, ◌-◌, replicate, length, get_or, negsuc, Float, Option, Some, None}
use Rattle.std.proofs.Common.{ap}
use Rattle.std.specs.Float.{fin}
use Rattle.std.specs.Float.Ieee.{le, eq, mul, div, of_int}
use Rattle.calendar.specs.declared.Calendar.{Calendar}
use Rattle.calendar.specs.Search.{least_from, greatest_of, is_at}
use Rattle.calendar.specs.Spans.{spans_from, any, holds, meets, contains}
use Rattle.calendar.specs.Valid as calendar
use Rattle.calendar.specs.Fits.{open_for, fits}
use Rattle.calendar.specs.Work.{working, joint, end_from, work_end, latest, last_change}
use Rattle.calendar.specs.Add.{empty}
use Rattle.cells.specs.Cells.{before}
use Rattle.timeline.specs.declared.ResourceTimeline.{ResourceTimeline}
use Rattle.timeline.specs.Bookings.{bookings_to, total, latest_end}
use Rattle.timeline.specs.Valid as timeline
use Rattle.timeline.specs.Free.{overlaps, on_at, tally, load, free}
use Rattle.timeline.specs.Earliest.{fits_at, free_to, starts_at, last_event, earliest_fit, earliest_resumable}
use Rattle.timeline.specs.Diary.{insert_by_start, latest_ends, diary}
use Rattle.timeline.specs.Book.{book_refusal, taken, book_reply}
use Rattle.timeline.specs.Ask as asking
use Rattle.activity.specs.declared.ResourceTiming.{ResourceTiming}
use Rattle.activity.specs.declared.ResourceTiming.TheVariants.{Nothing}
use Rattle.activity.specs.declared.ResourceRequirement.{ResourceRequirement}
use Rattle.activity.specs.declared.Activity.{Activity}
use Rattle.activity_speeds.specs.Speeds.{half_up, round_away, process_at, is_speed}
use Rattle.activity.specs.Durations.{untimed, greatest, product, duration_on}
use Rattle.calendar.specs.Sets.{bit}
use Rattle.activity.specs.Serving.{covers, candidate, serves}
use Rattle.activity.specs.Ready.{ready_of}
use Rattle.cells.specs.Every.{every, every_from}
use Rattle.activity.specs.Check.{no_requirement, release_right, short, quantity, quantities_right, usage_right, times_right, activity_refusal}
use Rattle.activity.specs.Order.{order_with, with_requirements, with_timings}
use Rattle.activity.specs.Theorems.Runs.{two, half, lasting, at}
use Rattle.board.specs.declared.Board.{Board}
use Rattle.board.specs.Resources as resources
use Rattle.board.specs.Setups.{entry_or, matrix_setup, setup_ms}
use Rattle.board.specs.Transport as transport
use Rattle.board.specs.Valid as board
use Rattle.board.specs.Resources.{blank_resource, new_resource}
use Rattle.scheduler.specs.Alone.{can_start, all_start, last_of, earliest_of, resource_in, with_companions, duration_alone, span_of, arrival, start_with, start_alone}
use Rattle.scheduler.specs.Choosing.{sooner, insert_by, sort_into, answer, candidates, hold_first, behind, round, greatest_start, settle, rounds, choosing}
use Rattle.scheduler.specs.declared.Entry.{Entry}
use Rattle.scheduler.specs.Entries.{held_entry, companion_entry}
use Rattle.scheduler.specs.Fitting.{duration_together, greatest_setup, among, join_each, all_companions, companion_entries, entries_of, span_together}
use Rattle.scheduler.specs.Fitting.{fits_all, all_free, free_to_end, starts_all, suits, last_all, fitting, end_of}
use Rattle.scheduler.specs.Placing.{Reply, placed, none, ended, started, fitted, fit_chosen, time_only, by_requirements, placing, place_refusal, place_reply}
use Rattle.calendar.specs.Refusals.{refused_or}

-- a marked run: an ask of a diary, a process time worked out at a speed, an order placed on a board
pub data Run : Type 0 where
  fit : ResourceTimeline → ℕ → ℕ → ℕ → Run
  resumable : ResourceTimeline → ℕ → ℕ → ℕ → Run
  process : ℕ → Float → Run
  place : Board → Activity → ℕ → Run

pub data Result : Type 0 where
  diary_reply : asking.AskReply → Result
  ms : ℕ → Result
  placement : Reply → Result

unfoldable pub run : Run → Result
run (fit t from span u) = diary_reply (asking.fit_reply t from span u)
run (resumable t from work u) = diary_reply (asking.resumable_reply t from work u)
run (process base speed) = ms (duration_on (lasting 0 base 0) (at speed ∷ []) (0 ∷ [])).process
run (place b a ready) = placement (place_reply b a ready 24)

-- 1.5
abbrev three_halves : Float
three_halves = fin false 3 (negsuc 0)

-- windows 0-10, 10-20; window 0-100 with block 40-60
abbrev pub touching : Calendar
touching = record {
  windows = record { starts = 0 ∷ 10 ∷ replicate 30 0; ends = 10 ∷ 20 ∷ replicate 30 0; len = 2 };
  blocks = record { starts = replicate 32 0; ends = replicate 32 0; len = 0 };
}

abbrev pub broken : Calendar
broken = record {
  windows = record { starts = 0 ∷ replicate 31 0; ends = 100 ∷ replicate 31 0; len = 1 };
  blocks = record { starts = 40 ∷ replicate 31 0; ends = 60 ∷ replicate 31 0; len = 1 };
}

-- a diary with one booking of one unit more
abbrev pub booked : ResourceTimeline → ℕ → ℕ → ResourceTimeline
booked t s e = (book_reply t s e 1).timeline

-- resources 0 and 1 with these diaries
abbrev pub board_of : ResourceTimeline → ResourceTimeline → Board
board_of t u = record {
  resources = new_resource 0 0 0 [] t ∷ new_resource 1 0 0 [] u ∷ replicate 14 blank_resource;
  len = 2;
  transport = replicate 256 0;
}

-- an order of this process time and quantity
abbrev pub order : ℕ → ℕ → List ResourceTiming → Activity
order p q timings =
    let wanted : ResourceRequirement = record { kind = 0; candidates = 0; skills = 0; quantity = q; usage = 1 } in
    let bare = order_with 0 (lasting 0 p 0) false None empty 0 in
    with_timings (with_requirements bare (wanted ∷ replicate 3 no_requirement) 1) (timings ++ replicate (16 - length timings) untimed)

abbrev pub entry : ℕ → Entry
entry number = held_entry number 0 1

-- the reply of a placement: choosing instant, start, end, entries
abbrev pub placed_at : ℕ → ℕ → ℕ → List Entry → Reply
placed_at t s e es = placed (record { choosing = t; start = s; end = e; entries = es })

abbrev pub free1 : ResourceTimeline
free1 = diary 1 empty []

-- M1 · M2, M3 · M4 twice · M5 · M6 · M7 twice · M8 twice · M9 twice · M10 twice · M11 twice · M12 twice
abbrev pub marked : List Run
marked =
    fit free1 50 0 1
    ∷ fit (booked free1 100 200) 50 50 1
    ∷ fit (booked free1 100 200) 50 51 1
    ∷ fit (booked free1 100 200) 150 0 1
    ∷ fit (booked free1 100 200) 100 0 1
    ∷ fit (booked (booked (diary 2 empty []) 0 10) 10 20) 0 20 1
    ∷ fit (booked (booked (diary 2 empty []) 0 10) 10 20) 0 20 3
    ∷ fit (diary 1 touching []) 0 12 1
    ∷ resumable (diary 1 touching []) 0 12 1
    ∷ resumable (diary 1 broken []) 30 30 1
    ∷ fit (diary 1 broken []) 30 30 1
    ∷ resumable (booked (diary 1 broken []) 70 75) 30 30 1
    ∷ resumable (booked (diary 1 broken []) 70 75) 30 25 1
    ∷ process 1001 two
    ∷ process 1000 three_halves
    ∷ place (board_of (booked free1 0 100) free1) (order 30 1 []) 0
    ∷ place (board_of (booked free1 0 100) free1) (order 30 2 []) 0
    ∷ place (board_of free1 free1) (order 100 2 (at two ∷ at half ∷ [])) 0
    ∷ place (board_of free1 (booked free1 150 160)) (order 100 2 (at two ∷ at half ∷ [])) 0
    ∷ []

abbrev pub replies : List Result
replies =
    diary_reply (asking.fit 50 50)
    ∷ diary_reply (asking.fit 50 100)
    ∷ diary_reply (asking.fit 200 251)
    ∷ diary_reply (asking.fit 200 200)
    ∷ diary_reply (asking.fit 100 100)
    ∷ diary_reply (asking.fit 0 20)
    ∷ diary_reply asking.none
    ∷ diary_reply asking.none
    ∷ diary_reply (asking.fit 0 12)
    ∷ diary_reply (asking.fit 30 80)
    ∷ diary_reply (asking.fit 60 90)
    ∷ diary_reply asking.none
    ∷ diary_reply (asking.fit 75 100)
    ∷ ms 501
    ∷ ms 667
    ∷ placement (placed_at 0 0 30 (entry 1 ∷ []))
    ∷ placement (placed_at 100 100 130 (entry 0 ∷ entry 1 ∷ []))
    ∷ placement (placed_at 0 0 100 (entry 0 ∷ entry 1 ∷ []))
    ∷ placement (placed_at 160 160 260 (entry 0 ∷ entry 1 ∷ []))
    ∷ []

pub runs : map run marked ≡ replies
unfolding run eq le mul div of_int least_from spans_from any holds meets contains calendar.cell_right every_from calendar.spans_right
    calendar.valid open_for fits working joint end_from work_end latest last_change empty bookings_to total latest_end before timeline.cell_right
    timeline.cell_empty timeline.contents_right timeline.valid overlaps on_at tally load free fits_at free_to starts_at last_event earliest_fit earliest_resumable
    insert_by_start latest_ends diary book_refusal taken book_reply asking.unbroken asking.ended asking.resumed asking.ask_refusal asking.asked
    half_up round_away process_at is_speed greatest product duration_on bit covers candidate serves ready_of every release_right short quantity
    quantities_right usage_right times_right activity_refusal order_with resources.lookup_to is_at entry_or matrix_setup setup_ms transport.places_from
    transport.greatest_transport board.duration_right board.entry_right board.is_zero board.matrix_right board.companions_right board.last_right
    board.resource_right board.diary_blank board.last_blank board.resource_blank board.cell_right board.transport_right
    board.valid can_start all_start last_of earliest_of resource_in with_companions duration_alone span_of arrival start_alone start_with sooner
    insert_by sort_into answer candidates hold_first behind round greatest_start settle rounds choosing duration_together greatest_setup among
    join_each all_companions companion_entries entries_of span_together fits_all all_free free_to_end starts_all suits last_all fitting end_of ended
    started fitted fit_chosen time_only by_requirements placing refused_or place_refusal place_reply greatest_of
runs = refl

placement_in : Result → Reply
placement_in (diary_reply r) = none
placement_in (ms n) = none
placement_in (placement r) = r

-- M11's first placing, by itself
pub first-placed : place_reply (board_of (booked free1 0 100) free1) (order 30 1 []) 0 24 ≡ placed_at 0 0 30 (entry 1 ∷ [])
unfolding run placement_in
first-placed = ap (λ (l : List Result). placement_in (get_or l 15 (ms 0))) runs

-- a companion joins with setup 0 and unit 1, and its speed does not count
pub companion-joins :
    place_reply (record {
      resources = new_resource 0 0 0 (1 ∷ []) free1 ∷ new_resource 1 9 0 [] free1 ∷ replicate 14 blank_resource;
      len = 2;
      transport = replicate 256 0;
    }) (order 100 1 (Nothing ∷ at two ∷ [])) 0 24
    ≡ placed_at 0 0 100 (entry 0 ∷ companion_entry 1 ∷ [])
unfolding eq le mul div of_int least_from spans_from any holds meets contains calendar.cell_right every_from calendar.spans_right calendar.valid
    open_for fits working joint end_from work_end latest last_change empty bookings_to total latest_end before timeline.cell_right
    timeline.cell_empty timeline.contents_right timeline.valid overlaps on_at tally load free fits_at free_to starts_at last_event earliest_fit earliest_resumable
    insert_by_start latest_ends diary book_refusal taken book_reply asking.unbroken asking.ended asking.resumed asking.ask_refusal asking.asked
    half_up round_away process_at is_speed greatest product duration_on bit covers candidate serves ready_of every release_right short quantity
    quantities_right usage_right times_right activity_refusal order_with resources.lookup_to is_at entry_or matrix_setup setup_ms transport.places_from
    transport.greatest_transport board.duration_right board.entry_right board.is_zero board.matrix_right board.companions_right board.last_right
    board.resource_right board.diary_blank board.last_blank board.resource_blank board.cell_right board.transport_right
    board.valid can_start all_start last_of earliest_of resource_in with_companions duration_alone span_of arrival start_alone start_with sooner
    insert_by sort_into answer candidates hold_first behind round greatest_start settle rounds choosing duration_together greatest_setup among
    join_each all_companions companion_entries entries_of span_together fits_all all_free free_to_end starts_all suits last_all fitting end_of ended
    started fitted fit_chosen time_only by_requirements placing refused_or place_refusal place_reply greatest_of
companion-joins = refl
