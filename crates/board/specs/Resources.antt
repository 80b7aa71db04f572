-- The board paragraph of 'Placing': a resource, the resources in board order, and where a resource number stands among them.
use Rattle.std.specs.Prelude.{ℕ, ◌-◌, Bool, false, List, [], ◌++◌, length, get_or, take, replicate, eqb, pos, Option, None}
use Rattle.calendar.specs.Search.{Found, least_from, is_at}
use Rattle.timeline.specs.declared.ResourceTimeline.{ResourceTimeline}
use Rattle.timeline.specs.Diary.{blank_diary, no_diary}
use Rattle.board.specs.declared.TransitionMatrix.{TransitionMatrix}
use Rattle.board.specs.declared.Resource.{Resource}
use Rattle.board.specs.declared.Board.{Board}

-- no matrix
abbrev pub blank_matrix : TransitionMatrix
blank_matrix = record {
  present = false;
  default = pos 0;
  initial = pos 0;
  transitions = replicate 256 (pos 0);
  initials = replicate 16 (pos 0);
}

abbrev pub companion_cells : List ℕ → List ℕ
companion_cells companions = companions ++ replicate (4 - length companions) 0

-- a resource as it is entered: no matrix, and nothing was last
abbrev pub new_resource : ℕ → ℕ → ℕ → List ℕ → ResourceTimeline → Resource
new_resource number kind skills companions t = record {
  number = number;
  kind = kind;
  skills = skills;
  companions = companion_cells companions;
  count = length companions;
  timeline = t;
  matrix = blank_matrix;
  last = None;
}

-- 0 throughout: a cell past the length
abbrev pub blank_resource : Resource
blank_resource = new_resource 0 0 0 [] blank_diary

-- what is read past an array's end: an array of it has no cell
abbrev no_matrix : TransitionMatrix
no_matrix = record { present = false; default = pos 0; initial = pos 0; transitions = []; initials = [] }

abbrev pub no_resource : Resource
no_resource = record { number = 0; kind = 0; skills = 0; companions = []; count = 0; timeline = no_diary; matrix = no_matrix; last = None }

-- the resource with another diary
abbrev pub with_timeline : ResourceTimeline → Resource → Resource
with_timeline t r = record {
  number = r.number;
  kind = r.kind;
  skills = r.skills;
  companions = r.companions;
  count = r.count;
  timeline = t;
  matrix = r.matrix;
  last = r.last;
}

-- the resource with another matrix
abbrev pub with_matrix : TransitionMatrix → Resource → Resource
with_matrix m r = record {
  number = r.number;
  kind = r.kind;
  skills = r.skills;
  companions = r.companions;
  count = r.count;
  timeline = r.timeline;
  matrix = m;
  last = r.last;
}

-- the resource with another last category
abbrev pub with_last : Option ℕ → Resource → Resource
with_last last r = record {
  number = r.number;
  kind = r.kind;
  skills = r.skills;
  companions = r.companions;
  count = r.count;
  timeline = r.timeline;
  matrix = r.matrix;
  last = last;
}

-- board order is the order in which they were added
abbrev pub resources_of : Board → List Resource
resources_of b = take b.len b.resources

abbrev pub resource_at : Board → ℕ → Resource
resource_at b i = get_or b.resources i no_resource

abbrev pub number_at : Board → ℕ → ℕ
number_at b i = (resource_at b i).number

-- the first place with this number among the first n
unfoldable pub lookup_to : Board → ℕ → ℕ → Found
lookup_to b n number = least_from (λ i. eqb (number_at b i) number) 0 n

-- the place of a resource number on the board
abbrev pub lookup : Board → ℕ → Found
lookup b number = lookup_to b b.len number

abbrev pub on_board : Board → ℕ → Bool
on_board b number = is_at (lookup b number)
