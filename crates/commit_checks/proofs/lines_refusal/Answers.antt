-- `commit_checks::lines_refusal` meets its contract: each refusal in its order (Refusing), the checks of the rows being those of the lines (Rows).
use Rattle.std.specs.Prelude.{◌≡◌, true, [], List, ℕ, length, get_or}
use Rattle.std.proofs.Common.{sym, ◌∙◌}
use Rattle.board.specs.declared.Board.{Board}
use Rattle.board.specs.Valid.{valid}
use Rattle.board.specs.Places.{Known}
use Rattle.scheduler.specs.Committing.{lines_of}
use Rattle.scheduler.specs.Laws.Committed.{all_on}
use Rattle.cells.specs.Every.{every}
use Rattle.cells.specs.Laws.Every.{every_in}
use Rattle.commit_checks.specs.Lines.{numbered}
use Rattle.commit_checks.proofs.Rows.{number_is, numbers-lines, units-lines, room-lines}
use Rattle.commit_checks.proofs.Refusing.{refused-off, refused-category, refused-start, refused_end, refused-order, refused-units, refused-room, refused_none}
use Rattle.commit_checks.proofs.lines_refusal.Goals as goal
use Rattle.commit_checks.proofs.lines_refusal.Goals.{then-not-numbers_right-via-then-not-numbers_right, then-not-numbers_right-via-else-not-numbers_right+then-category-gt15}
use Rattle.commit_checks.proofs.lines_refusal.Goals.{then-start-gt-LAST_INSTANT-via-then-start-gt-LAST_INSTANT, then-start-gt-LAST_INSTANT-via-else-start-gt-LAST_INSTANT+then-end-gt-LAST_INSTANT}

on : (b : Board) (rows : List (List ℕ)) (places : List ℕ) → valid b ≡ true → Known b places → every (numbered places) rows ≡ true → all_on b (lines_of (length rows) rows) ≡ true
on b rows places v known e = sym (numbers-lines b v places known rows) ∙ e

pub returns-then-not-numbers_right : goal.returns-then-not-numbers_right
returns-then-not-numbers_right c b v known long =
    let rows = c.args.rows.now in
    elim c.then-not-numbers_right.branch [
      | then-not-numbers_right-via-then-not-numbers_right w ↦ refused-off _ _ _ _ _ (sym (numbers-lines b v _ known rows) ∙ sym c.numbers_right.ensures ∙ w.if-not-numbers_right.true)
      | then-not-numbers_right-via-else-not-numbers_right+then-category-gt15 w ↦
          refused-category _ _ _ _ _ (on b rows _ v known (sym c.numbers_right.ensures ∙ w.if-not-numbers_right.false)) w.if-category-gt15.true
    ]

pub returns-then-start-gt-LAST_INSTANT : goal.returns-then-start-gt-LAST_INSTANT
returns-then-start-gt-LAST_INSTANT c b v known long =
    let o = on b _ _ v known (sym c.numbers_right.ensures ∙ c.if-not-numbers_right.false) in
    elim c.then-start-gt-LAST_INSTANT.branch [
      | then-start-gt-LAST_INSTANT-via-then-start-gt-LAST_INSTANT w ↦ refused-start _ _ _ _ _ o c.if-category-gt15.false w.if-start-gt-LAST_INSTANT.true
      | then-start-gt-LAST_INSTANT-via-else-start-gt-LAST_INSTANT+then-end-gt-LAST_INSTANT w ↦
          refused_end _ _ _ _ _ o c.if-category-gt15.false w.if-start-gt-LAST_INSTANT.false w.if-end-gt-LAST_INSTANT.true
    ]

pub returns-then-end-start : goal.returns-then-end-start
returns-then-end-start c b v known long =
    refused-order _ _ _ _ _ (on b _ _ v known (sym c.numbers_right.ensures ∙ c.if-not-numbers_right.false)) c.if-category-gt15.false c.if-start-gt-LAST_INSTANT.false c.if-end-gt-LAST_INSTANT.false c.if-end-start.true

pub returns-then-not-units_right : goal.returns-then-not-units_right
returns-then-not-units_right c b v known long =
    refused-units _ _ _ _ _ (on b _ _ v known (sym c.numbers_right.ensures ∙ c.if-not-numbers_right.false)) c.if-category-gt15.false c.if-start-gt-LAST_INSTANT.false c.if-end-gt-LAST_INSTANT.false c.if-end-start.false
    (sym (units-lines _) ∙ sym c.units_right.ensures ∙ c.if-not-units_right.true)

pub tally_of-requires : goal.tally_of-requires
tally_of-requires c =
    let places = c.args.p.now.places in
    let rows = c.args.rows.now in
    λ k m. (number_is places (get_or rows k []) (every_in (numbered places) rows k [] m (sym c.numbers_right.ensures ∙ c.if-not-numbers_right.false))).0

pub returns-then-not-room_right : goal.returns-then-not-room_right
returns-then-not-room_right c b v known long =
    let p = c.args.p.now in
    let n = sym c.numbers_right.ensures ∙ c.if-not-numbers_right.false in
    let same = room-lines b v p.places known p.lens c.tally_of.result c.args.rows.now long c.tally_of.ensures n in
    refused-room _ _ _ _ _ (on b _ _ v known n) c.if-category-gt15.false c.if-start-gt-LAST_INSTANT.false c.if-end-gt-LAST_INSTANT.false c.if-end-start.false
    (sym (units-lines _) ∙ sym c.units_right.ensures ∙ c.if-not-units_right.false) (sym same ∙ sym c.room_right.ensures ∙ c.if-not-room_right.true)

pub returns : goal.returns
returns c b v known long =
    let p = c.args.p.now in
    let n = sym c.numbers_right.ensures ∙ c.if-not-numbers_right.false in
    let same = room-lines b v p.places known p.lens c.tally_of.result c.args.rows.now long c.tally_of.ensures n in
    refused_none _ _ _ _ _ (on b _ _ v known n) c.if-category-gt15.false c.if-start-gt-LAST_INSTANT.false c.if-end-gt-LAST_INSTANT.false c.if-end-start.false
    (sym (units-lines _) ∙ sym c.units_right.ensures ∙ c.if-not-units_right.false) (sym same ∙ sym c.room_right.ensures ∙ c.if-not-room_right.false)
