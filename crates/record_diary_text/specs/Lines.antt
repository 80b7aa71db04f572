-- 01, 'Program slot': what a record prints, and its bytes.
use Rattle.std.specs.Prelude.{ℕ, List, [], ◌∷◌, ◌++◌}
use Rattle.calendar.specs.Replies.{number_of}
use Rattle.timeline.specs.Ask.{AskReply, fit, none, refused}
use Rattle.record_diary_text.specs.declared.Line.{Line}
use Rattle.record_diary_text.specs.declared.Line.TheVariants.{Nothing, Fit, None, Refused}
use Rattle.record_texts.specs.Text.{decimal}

-- nothing, or a line: `fit START END`, `none`, `refused N`
pub data Printed : Type 0 where
  nothing : Printed
  line : AskReply → Printed

unfoldable pub line_of : Line → Printed
line_of Nothing = nothing
line_of (Fit s e) = line (fit s e)
line_of None = line none
line_of (Refused r) = line (refused (number_of r))

-- `fit `, `none`, `refused ` in ASCII; 32 is a space, 10 the line's end
unfoldable pub text_of : Printed → List ℕ
text_of nothing = []
text_of (line (fit s e)) = 102 ∷ 105 ∷ 116 ∷ 32 ∷ (decimal s ++ (32 ∷ (decimal e ++ (10 ∷ []))))
text_of (line none) = 110 ∷ 111 ∷ 110 ∷ 101 ∷ 10 ∷ []
text_of (line (refused n)) = 114 ∷ 101 ∷ 102 ∷ 117 ∷ 115 ∷ 101 ∷ 100 ∷ 32 ∷ (decimal n ++ (10 ∷ []))
