-- What a library is lent, and how it is called: memory of 64-bit numbers, a text or room of bytes, and calls whose numbers have 64 bits. Assumes nothing.
use Rattle.std.specs.Prelude.{ℕ, ◌^◌, ◌<◌, List, [], ◌∷◌}
use Rattle.rules.specs.Allowance.{All}
use Rattle.machine.specs.Calls.{Call, order, lockout, offer, remaining, status, send, report, close}
use Rattle.machine.specs.declared.Offer.{Offer}

-- numbers below a bound
abbrev pub Below : ℕ → List ℕ → Type 0
Below bound xs = All (λ x. x < bound) xs

pub record Memory : Type 0 where
  pub now : List ℕ
  pub words : Below (2 ^ 64) now

pub record Text : Type 0 where
  pub now : List ℕ
  pub bytes : Below 256 now

-- the verdict that Text is asked for
pub record Verdict : Type 0 where
  pub number : ℕ
  pub word : number < 2 ^ 64

-- the numbers of a call
abbrev pub numbers_in : Call → List ℕ
numbers_in (order time root reset) = time ∷ root ∷ reset ∷ []
numbers_in (lockout time level root) = time ∷ level ∷ root ∷ []
numbers_in (offer o) = o.time ∷ o.root ∷ o.unit ∷ o.premium ∷ o.contracts ∷ []
numbers_in (remaining time rule unit) = time ∷ rule ∷ unit ∷ []
numbers_in status = []
numbers_in (send o identity reports) = o.time ∷ o.root ∷ o.unit ∷ o.premium ∷ o.contracts ∷ identity ∷ reports ∷ []
numbers_in (report time identity n) = time ∷ identity ∷ n ∷ []
numbers_in (close time identity) = time ∷ identity ∷ []

pub record Called : Type 0 where
  pub call : Call
  pub words : Below (2 ^ 64) (numbers_in call)

-- an offer so called
pub record Offered : Type 0 where
  pub offer : Offer
  pub words : Below (2 ^ 64) (numbers_in (Call.offer offer))

abbrev pub called : Offered → Called
called o = record { call = offer o.offer; words = o.words }
