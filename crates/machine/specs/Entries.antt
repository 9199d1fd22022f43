-- The entries of the log: which are valid, their order, what they count for a rule, and which are inside a window. Assumes nothing.
use Rattle.std.specs.Prelude.{ℕ, ◌+◌, Bool, true, cond, ◌&&◌, ◌||◌, List, [], ◌∷◌, leb, ltb}
use Rattle.laws.specs.Folds.{keep}
use Rattle.measures.specs.Ranges.{is_in, times, units, premiums, offers}
use Rattle.rules.specs.Rules.{level_of, share}
use Rattle.rules.specs.declared.Level.{Level}
use Rattle.rules.specs.declared.Level.TheVariants.{Firm, Root}
use Rattle.rules.specs.declared.Rule.{Rule}
use Rattle.machine.specs.declared.Entry.{Entry}

-- every number of an entry in its range, in a state with so many roots
unfoldable pub is_entry : ℕ → Entry → Bool
is_entry roots e = is_in times e.time && ltb e.root roots && is_in units e.unit && is_in premiums e.premium.0 && is_in offers e.contracts.0

-- entries in order of time, none earlier than one time and none later than another
unfoldable pub are_ordered : ℕ → ℕ → List Entry → Bool
are_ordered from clock [] = true
are_ordered from clock (e ∷ es) = leb from e.time && leb e.time clock && are_ordered e.time clock es

-- an entry's flag of a level
unfoldable pub flag_of : Level → Entry → Bool
flag_of Firm e = e.forfirm
flag_of (Root root) e = e.forroot

-- an entry counts for its root or for the firm
unfoldable pub is_flagged : Entry → Bool
is_flagged e = e.forroot || e.forfirm

-- what a log entry counts for a rule at a time: its flag of the rule's level must be set
unfoldable pub entry_share : Rule → ℕ → Entry → ℕ
entry_share rule time e =
    cond (flag_of (level_of rule.scope) e) (share rule e.time e.root e.unit e.premium.0 e.contracts.0 time) 0

-- an entry is inside a window at a time if its own time plus the window is above that time
abbrev pub is_recent : ℕ → ℕ → Entry → Bool
is_recent window time e = ltb time (e.time + window)

-- the entries inside a window at a time
unfoldable pub recent : ℕ → ℕ → List Entry → List Entry
recent window time log = keep (is_recent window time) log
