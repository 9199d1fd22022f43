-- The map of lent memory as one shape, put together of parts, and the numbers of a state. Assumes nothing.
use Rattle.std.specs.Prelude.{ℕ, Bool, true, List, [], ◌∷◌, ◌++◌, map, length, drop, eqb}
use Rattle.shapes.specs.Shape.{Shape, cell, both, named, rows, table, flag, word}
use Rattle.rules.specs.Amounts.{number_of, amount_in}
use Rattle.rules.specs.declared.Rule.{Rule}
use Rattle.rules.specs.declared.Account.{Account}
use Rattle.packing.specs.RulePlace.{rules_shape}
use Rattle.packing.specs.EntryPlace.{flag_number, log_shape}
use Rattle.register.specs.Register.{register_shape}
use Rattle.machine.specs.declared.Entry.{Entry}
use Rattle.machine.specs.declared.Sent.{Sent}
use Rattle.machine.specs.State.{Profile, Locks, State, cells_of}
use Rattle.given.specs.Parts.{totals_size}

-- how many numbers a profile, a firm's part and the whole state take
abbrev pub profile_size : ℕ
profile_size = 579

abbrev pub part_size : ℕ
part_size = 1737

abbrev pub size : ℕ
size = 2763

-- where the totals, the locks, the register and the log begin, and how many numbers these take
abbrev pub totals_at : ℕ
totals_at = 581

abbrev pub locks_at : ℕ
locks_at = 1605

abbrev pub register_at : ℕ
register_at = 1609

abbrev pub log_at : ℕ
log_at = 1738

abbrev pub rest_size : ℕ
rest_size = 2182

-- a number that may be any
unfoldable pub number : Shape 1 ℕ
number = cell (λ x. true)

-- the marks: the firm's trip and lockout, the word of tripped roots, and that of roots which the user locked out
abbrev pub Marks : Type 0
Marks = Bool × (Bool × (ℕ × ℕ))

unfoldable pub locks_of : Marks → Locks
locks_of p = record { firm_tripped = p.0; firm_by_user = p.1.0; tripped = p.1.1.0; by_user = p.1.1.1 }

unfoldable pub marks_of : Locks → Marks
marks_of l = (l.firm_tripped, (l.firm_by_user, (l.tripped, l.by_user)))

unfoldable pub locks_shape : Shape 4 Locks
locks_shape = named locks_of marks_of (both (word flag) (λ _. both (word flag) (λ _. both number (λ _. number))))

-- the numbers of the locks
abbrev pub locks_numbers : Locks → List ℕ
locks_numbers l = flag_number l.firm_tripped ∷ flag_number l.firm_by_user ∷ l.tripped ∷ l.by_user ∷ []

-- a profile: the firm, the table of the roots, and that of the rules
abbrev pub Lines : Type 0
Lines = ℕ × (List ℕ × List Rule)

unfoldable pub from_tuple : Lines → Profile
from_tuple p = record { firm = p.0; roots = p.1.0; rules = p.1.1 }

unfoldable pub as_tuple : Profile → Lines
as_tuple p = (p.firm, (p.roots, p.rules))

unfoldable pub profile_shape : Shape profile_size Profile
profile_shape = named from_tuple as_tuple (both number (λ _. both (table 64 number) (λ roots. rules_shape (length roots))))

-- a firm's part: clock, profile, the totals of the accounts that its rules have, locks, and the register of orders sent away
abbrev pub PartNumbers : Type 0
PartNumbers = ℕ × (Profile × (List ℕ × (Locks × List Sent)))

-- the totals stand one after the other, account by account
unfoldable pub totals_shape : List Rule → Shape totals_size (List ℕ)
totals_shape rules = rows totals_size number (length (cells_of rules))

unfoldable pub part_shape : Shape part_size PartNumbers
part_shape =
    both number
    (λ _. both profile_shape (λ p. both (totals_shape p.rules) (λ _. both locks_shape (λ _. register_shape (length p.roots)))))

-- the whole: the mark of armed memory, the firm's part, and the log
abbrev pub Numbers : Type 0
Numbers = ℕ × (PartNumbers × List Entry)

unfoldable pub numbers_shape : Shape size Numbers
numbers_shape = both (cell (λ x. eqb x 1)) (λ _. both part_shape (λ p. log_shape (length p.1.0.roots)))

-- the numbers of the totals
abbrev pub totals_in : List Account → List ℕ
totals_in accounts = map (λ a. number_of a.total) accounts

-- rules with their totals, each in its rule's measure
unfoldable pub accounts_of : List Rule → List ℕ → List Account
accounts_of [] totals = []
accounts_of (rule ∷ rules) [] = []
accounts_of (rule ∷ rules) (total ∷ totals) = record { rule = rule; total = amount_in rule.limit total } ∷ accounts_of rules totals

-- a state as these numbers, and the state that they stand for
unfoldable pub numbers_of : State → Numbers
numbers_of s = (1, ((s.part.clock, (s.part.profile, (totals_in s.part.accounts, (s.part.locks, s.part.register)))), s.log))

unfoldable pub state_of : Numbers → State
state_of n = record {
  part = record {
    clock = n.1.0.0;
    profile = n.1.0.1.0;
    accounts = accounts_of (cells_of n.1.0.1.0.rules) n.1.0.1.1.0;
    locks = n.1.0.1.1.1.0;
    register = n.1.0.1.1.1.1;
  };
  log = n.1.1;
}

-- the numbers of an armed state in memory
unfoldable pub encode : State → List ℕ
encode s = numbers_shape.write (numbers_of s)

-- memory that holds a state, with what it held past the state
unfoldable pub stored : State → List ℕ → List ℕ
stored s xs = encode s ++ drop size xs

-- the state that a memory's numbers stand for
unfoldable pub decode : List ℕ → State
decode xs = state_of (numbers_shape.read xs)
