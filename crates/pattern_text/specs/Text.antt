-- The text of a library: a function of the file and the answers. The format is this project's own.
use Rattle.std.specs.Prelude.{ℕ, List, [], ◌∷◌, ◌++◌, map, Option, Some, None, slice_get, codes, zero, suc}
use Rattle.std.specs.List.{flat_map}
use Rattle.std.specs.Fmt.{decimal}
use Rattle.isel_spec.specs.File.{File, Operation, Goal}
use Rattle.pattern_core.specs.declared.pattern.Src.{Src}
use Rattle.pattern_core.specs.declared.pattern.Src.TheVariants.{Input, Out}
use Rattle.pattern_core.specs.declared.pattern.Node.{Node}
use Rattle.pattern_core.specs.declared.pattern.Pattern.{Pattern}
use Rattle.pattern_core.specs.declared.pattern.GoalAnswer.{GoalAnswer}
use Rattle.pattern_core.specs.declared.pattern.GoalAnswer.TheVariants as answer

-- words with single spaces between
abbrev pub joined : List (List ℕ) → List ℕ
joined [] = []
joined (w ∷ []) = w
joined (w ∷ v ∷ ws) = w ++ 32 ∷ joined (v ∷ ws)

-- what stands before the word in a place
abbrev pub gap : ℕ → List ℕ
gap zero = []
gap (suc place) = codes " "

-- a line, ended by a line feed
abbrev pub line : List ℕ → List ℕ
line text = text ++ 10 ∷ []

-- input K is iK, and result R of node J is nJ.R
abbrev pub source_text : Src → List ℕ
source_text (Input k) = codes "i" ++ decimal k
source_text (Out node result) = codes "n" ++ decimal node ++ codes "." ++ decimal result

-- a name in the file; past its end, where no well-formed pattern leads, nothing
abbrev pub op_name : Option Operation → List ℕ
op_name (Some o) = o.name
op_name None = []

-- (OP ATTR .. SRC ..)
abbrev pub node_text : File → Node → List ℕ
node_text f n =
    codes "(" ++ op_name (slice_get f.ops n.op) ++ flat_map (λ a. codes " " ++ decimal a) n.attrs
    ++ flat_map (λ s. codes " " ++ source_text s) n.args ++ codes ")"

-- (rule (NODE ..) (SRC ..))
abbrev pub rule_text : File → Pattern → List ℕ
rule_text f p =
    line (codes " (rule (" ++ joined (map (node_text f) p.nodes) ++ codes ") ("
    ++ joined (map source_text p.results) ++ codes "))")

-- (open (OP ..))
abbrev pub open_text : File → List ℕ → List ℕ
open_text f multi = line (codes " (open (" ++ joined (map (λ op. op_name (slice_get f.ops op)) multi) ++ codes "))")

-- the answer for the goal of that name
abbrev pub answer_text : File → List ℕ → GoalAnswer → List ℕ
answer_text f name (answer.Complete size rules) =
    line (codes "(goal " ++ name ++ codes " complete " ++ decimal size) ++ flat_map (rule_text f) rules
    ++ line (codes ")")
answer_text f name (answer.Partial size rules undecided) =
    line (codes "(goal " ++ name ++ codes " partial " ++ decimal size) ++ flat_map (rule_text f) rules
    ++ flat_map (open_text f) undecided ++ line (codes ")")
answer_text f name answer.None = line (codes "(goal " ++ name ++ codes " none)")
answer_text f name (answer.Stopped undecided) =
    line (codes "(goal " ++ name ++ codes " stopped") ++ flat_map (open_text f) undecided ++ line (codes ")")

-- the answer for a goal; past the last one, where there is none, nothing
abbrev pub goal_text : File → Option Goal → GoalAnswer → List ℕ
goal_text f (Some g) a = answer_text f g.name a
goal_text f None a = []

-- an answer for each goal, in order
abbrev pub answers_text : File → List Goal → List GoalAnswer → List ℕ
answers_text f (g ∷ gs) (a ∷ rest) = answer_text f g.name a ++ answers_text f gs rest
answers_text f [] rest = []
answers_text f (g ∷ gs) [] = []

abbrev pub library_text : File → List GoalAnswer → List ℕ
library_text f answers = line (codes "(isel-library 1)") ++ answers_text f f.goals answers
