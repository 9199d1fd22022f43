-- What is read of the profile in a memory that meets no refusal. Assumes nothing.
use Prim.Native.Nat.{ℕ, ◌≤◌, ◌<◌}
use mathlib.Core.Path.{◌≡◌}
use mathlib.Core.Bool.{true}
use mathlib.Core.List.{List}
use lib.ListN.{length, get_or}
use Rattle.text.specs.Text.{is_name_byte}
use Rattle.machine.specs.State.{roots_in}
use Rattle.given.specs.Names.{name_bytes, is_name_number}
use Rattle.given.specs.Given.{are_roots}
use Rattle.text.proofs.Bytes.{made-most}
use Rattle.writing.proofs.Roots.{root-name}
use Rattle.state.specs.State.{decode}
use Rattle.state.specs.Inner.Laid.{Laid}
use Rattle.state.proofs.Exactly.{made-parts, given-is-made, sound-decode, sound-is-laid}
use Rattle.calls.specs.Calls.{memory_refusal}
use Rattle.calls.proofs.Armed.{sound-memory}

module _ (xs : List ℕ) (ready : memory_refusal xs ≡ 0) where
  pub laid : Laid xs
  laid = sound-is-laid xs (sound-memory xs ready)

  pub few-roots : roots_in (decode xs) ≤ 64
  few-roots = laid.fits.roots

  pub roots-named : are_roots (decode xs).part.profile.roots ≡ true
  roots-named =
      let p = (decode xs).part.profile in
      (made-parts p (given-is-made p (sound-decode xs (sound-memory xs ready)).given)).names

  pub name-short : (root : ℕ) → root < roots_in (decode xs) → length (name_bytes (get_or (decode xs).part.profile.roots root 0)) ≤ 6
  unfolding is_name_number roots_in
  name-short root known =
      let roots = (decode xs).part.profile.roots in
      made-most is_name_byte 1 6 (name_bytes (get_or roots root 0)) (root-name roots root roots-named known)
