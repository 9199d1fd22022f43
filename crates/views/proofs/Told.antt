-- What became of a profile's text, told in the words of the specs, is one answer. Assumes nothing.
use Prim.Native.Nat.{ℕ}
use mathlib.Core.Path.{◌≡◌, refl, sym, ap, ◌∙◌}
use Rattle.std.specs.Prelude.{Result}
use Rattle.std.specs.declared.result.Result.TheVariants.{Ok, Err}
use Rattle.refusals.proofs.Once.{refusal_at, refusal_at_number}
use Rattle.views.specs.declared.Unlisted.{Unlisted}
use Rattle.views.specs.declared.Unlisted.TheVariants.{Short as RoomShort, Refused as WasRefused}
use Rattle.views.specs.Views.{Listing, Listed, Short, NotListed, listing_told}

abbrev told_by : Listing → Result ℕ Unlisted
told_by (Listed size) = Ok size
told_by (Short size) = Err (RoomShort size)
told_by (NotListed n) = Err (WasRefused (refusal_at n))

told_by_told : (a : Result ℕ Unlisted) → told_by (listing_told a) ≡ a
told_by_told (Ok size) = refl
told_by_told (Err (RoomShort size)) = refl
told_by_told (Err (WasRefused r)) = ap (λ r. Err (WasRefused r)) (refusal_at_number r)

pub one_listed : (a b : Result ℕ Unlisted) → listing_told a ≡ listing_told b → a ≡ b
one_listed a b e = sym (told_by_told a) ∙ ap told_by e ∙ told_by_told b
