-- The accounts credited one after the other. Assumes nothing.
use Prim.Native.Nat.{ℕ, ◌+◌, ◌≤◌, ◌<◌}
use mathlib.Core.Path.{◌≡◌, ap, ◌∙◌, subst}
use mathlib.Core.Bool.{Bool, false, ◌&&◌, ◌||◌}
use mathlib.Core.List.{List}
use lib.ListN.{length}
use Rattle.rules.specs.declared.Level.{Level}
use Rattle.rules.specs.declared.Level.TheVariants.{Firm, Root}
use Rattle.rules.specs.declared.Account.{Account}
use Rattle.machine.specs.declared.Offer.{Offer}
use Rattle.machine.specs.Offers.{credited}
use Rattle.state.specs.State.{decode}
use Rattle.state.specs.Inner.Laid.{Laid}
use Rattle.state.proofs.Done.{Doing, doing-none, doing-at, doing-more, doing-all}
use Rattle.grant.specs.Inner.Grant.{concerns, fills_by, reached_at, Credited, AllCredited}
use Rattle.grant.specs.declared.Levels.{Levels}
use Rattle.grant.proofs.Credits.{credit-fair}
use Rattle.grant.proofs.Tested.{Tested, tested-none, tested-more, tested-done}

-- the same account by another number
pub credited-there : {o : Offer} {grant i j : ℕ} {xs ys : List ℕ} {before after : Levels Bool} → i ≡ j → Credited o grant i xs ys before after
    → Credited o grant j xs ys before after
credited-there {o} {grant} {xs = xs} {ys = ys} {before = before} {after = after} e h = subst (λ (n : ℕ). Credited o grant n xs ys before after) e h

module _ (o : Offer) (grant : ℕ) where
  -- an absolute rule of a level that covers the offer stands at its limit after the grant
  abbrev pub filled_at : Level → Account → Bool
  filled_at level a = concerns o level a && fills_by o grant a

  -- the first i accounts of xs are credited in ys, and reached tells whether one of these stands at its limit
  pub record Crediting (xs : List ℕ) (i : ℕ) (ys : List ℕ) (reached : Levels Bool) : Type 0 where
    pub doing : Doing (credited o grant) xs i ys
    pub root : Tested (filled_at (Root o.root)) (decode xs).part.accounts i reached.root
    pub firm : Tested (filled_at Firm) (decode xs).part.accounts i reached.firm

  module _ {xs : List ℕ} (h : Laid xs) where
    pub crediting-none : Crediting xs 0 xs (record { root = false; firm = false })
    crediting-none = record {
      doing = doing-none (credit-fair o grant) h;
      root = tested-none (filled_at (Root o.root)) (decode xs).part.accounts;
      firm = tested-none (filled_at Firm) (decode xs).part.accounts;
    }

    module _ {i : ℕ} {ys : List ℕ} {reached : Levels Bool} (c : Crediting xs i ys reached) where
      pub crediting-more : {zs : List ℕ} {after : Levels Bool} → i < length (decode xs).part.accounts → Credited o grant i ys zs reached after
          → Crediting xs (i + 1) zs after
      crediting-more l one =
          let at = doing-at (credit-fair o grant) h c.doing in
          record {
            doing = doing-more (credit-fair o grant) h c.doing l one.memory;
            root = tested-more c.root l (one.root ∙ ap (λ (a : Account). reached.root || filled_at (Root o.root) a) at);
            firm = tested-more c.firm l (one.firm ∙ ap (λ (a : Account). reached.firm || filled_at Firm a) at);
          }

      -- all accounts went through
      pub crediting-done : length (decode xs).part.accounts ≤ i → AllCredited o grant xs ys reached
      unfolding reached_at
      crediting-done l = record {
        memory = doing-all (credit-fair o grant) h c.doing l;
        root = tested-done c.root l;
        firm = tested-done c.firm l;
      }
