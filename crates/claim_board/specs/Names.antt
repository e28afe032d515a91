-- Which board its parts are of.
use Rattle.std.specs.Prelude.{[], refl}
use Rattle.atomic_table.specs.Seated.{TableId}
use Rattle.claim_board.specs.declared.entry.Task.{Task}

-- a table of words: which one it is, and what it was told when it was made
pub record BoardName : Type 0 where
  pub table : TableId
  pub task : Task

-- the name of no board
abbrev pub no_board : BoardName
no_board = record {
  table = record { words = 0; slots = 0; views_name = 0; atom = 0; block = 0; offset = 0; slot_names = [] };
  task = record {
    spec = record {
      marker = record {};
      value = record {
        pointer = 1;
        terms = record { pointer = 1; nodes = [] };
        ops = [];
        goals = [];
        sound = refl;
      };
    };
    plan = record { goals = 0; kinds = 0; bound = 0 };
    budget = 0;
    workers = 0;
  };
}
