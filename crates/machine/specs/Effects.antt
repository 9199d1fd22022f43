-- What a reset does, by its number. Assumes nothing.
use Rattle.std.specs.Prelude.{ℕ, ◌≡◌, Bool, true, false, ◌&&◌, List, [], ◌∷◌, get_or, eqb}
use Rattle.rules.specs.declared.Level.{Level}
pub use Rattle.machine.specs.declared.Effect.{Effect}
use Rattle.rules.specs.declared.Level.TheVariants.{Firm, Root}

-- a row of the table: whether the root's counters are zeroed and the firm's, and whether the root's trip and lockout are lifted and the firm's
abbrev pub row : Bool → Bool → Bool → Bool → Effect
row zeroroot zerofirm liftroot liftfirm = record { zeroroot = zeroroot; zerofirm = zerofirm; liftroot = liftroot; liftfirm = liftfirm }

-- what each reset does, a row a number: SYMBOL, FIRM and BOTH zero and lift; T, E and both of these lift, and leave what is counted
unfoldable pub resets : List Effect
resets =
    -- 0: none
    row false false false false
    -- 1: SYMBOL
    ∷ row true false true false
    -- 2: FIRM
    ∷ row false true false true
    -- 3: BOTH
    ∷ row true true true true
    -- 4: T
    ∷ row false false true false
    -- 5: E
    ∷ row false false false true
    -- 6: T and E
    ∷ row false false true true
    ∷ []

unfoldable pub effect_of : ℕ → Effect
effect_of reset = get_or resets reset (row false false false false)

-- the highest reset that there is
abbrev pub last_reset : ℕ
last_reset = 6

-- the levels whose counters an order for a root zeroes
unfoldable pub zeroing : Effect → ℕ → Level → Bool
zeroing effect root Firm = effect.zerofirm
zeroing effect root (Root r) = eqb r root && effect.zeroroot

-- the levels whose trip and lockout it takes away
unfoldable pub lifting : Effect → ℕ → Level → Bool
lifting effect root Firm = effect.liftfirm
lifting effect root (Root r) = eqb r root && effect.liftroot

-- a reset that zeroes no counter
abbrev pub ZeroesNone : Effect → Type 0
ZeroesNone effect = (effect.zeroroot ≡ false) × (effect.zerofirm ≡ false)
