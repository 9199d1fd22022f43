-- What an account has counted, from its total and from what the log counts for its rule. Assumes nothing.
use Prim.Native.Nat.{ℕ, ◌-◌, ◌<◌}
use mathlib.Core.Path.{◌≡◌, refl, sym, ap, ◌∙◌}
use mathlib.Core.Bool.{true, cond}
use mathlib.Core.List.{List}
use lib.ListN.{length}
use Rattle.laws.specs.Folds.{sum_of}
use Rattle.rules.specs.Amounts.{number_of, amount_in, is_of}
use Rattle.rules.specs.Rules.{is_rate, counted_of, ceiling}
use Rattle.rules.specs.declared.Amount.{Amount}
use Rattle.rules.specs.declared.Limit.{Limit}
use Rattle.rules.specs.declared.Kind.{Kind}
use Rattle.rules.specs.declared.Kind.TheVariants.{Rate, Absolute}
use Rattle.rules.specs.declared.Rule.{Rule}
use Rattle.rules.proofs.Amounts.{number_in, of-in, in-number}
use Rattle.machine.specs.declared.Entry.{Entry}
use Rattle.machine.specs.Entries.{entry_share}
use Rattle.machine.specs.Offers.{counted}
use Rattle.machine.specs.Remaining.{left_of}
use Rattle.daylog.specs.Inner.Sieve.{sieve_of}
use Rattle.daylog.specs.Inner.Memo.{recalled_of}
use Rattle.daylog.specs.declared.Two.{Two}
use Rattle.state.specs.State.{decode}
use Rattle.state.specs.Inner.Laid.{Laid, account_in}
use Rattle.state.proofs.Laid.{laid-measured}
use Rattle.counting.specs.Inner.Counting.{IsLogged, memos_after}

-- what the log counts for a rule is what the rule takes for it, and for an absolute rule anything is
module _ {log : List Entry} {rule : Rule} {time : ℕ} where
  pub logged-so : {amount : Amount} → amount ≡ amount_in rule.limit (sum_of (entry_share rule time) log) → IsLogged log rule time amount
  logged-so e = record { same = λ total. ap (counted_of rule.kind total) e }

  pub logged-any : {amount : Amount} → rule.kind ≡ Absolute → IsLogged log rule time amount
  unfolding counted_of
  logged-any e = record { same = λ total. rw e }

-- the memos after a rate rule, and after an absolute rule
module _ (log : List Entry) (rule : Rule) (time : ℕ) (before : Two) where
  pub memos-rate : {window : ℕ} → rule.kind ≡ Rate window → recalled_of (sieve_of rule time) log before ≡ memos_after log rule time before
  unfolding memos_after is_rate
  memos-rate e = sym (ap (λ (k : Kind). cond (is_rate k) (recalled_of (sieve_of rule time) log before) before) e)

  pub memos-absolute : rule.kind ≡ Absolute → before ≡ memos_after log rule time before
  unfolding memos_after is_rate
  memos-absolute e = sym (ap (λ (k : Kind). cond (is_rate k) (recalled_of (sieve_of rule time) log before) before) e)

-- what is counted of two amounts in one measure is in that measure
counted-in : (kind : Kind) (limit : Limit) (total logged : ℕ)
    → counted_of kind (amount_in limit total) (amount_in limit logged) ≡ amount_in limit (counted_of kind total logged)
unfolding counted_of
counted-in (Rate w) limit total logged = refl
counted-in Absolute limit total logged = refl

-- the rule of account i, its total, what it takes for what the log counts, and what it counts of the two
module _ {xs : List ℕ} (h : Laid xs) {i : ℕ} (l : i < length (decode xs).part.accounts) {rule : Rule} (is : rule ≡ (account_in xs i).rule) {time : ℕ} {total : Amount} (total-is : total ≡ (account_in xs i).total) {logged : Amount} (logged-is : IsLogged (decode xs).log rule time logged) {sum : Amount} (sum_is_lem : sum ≡ counted_of rule.kind total logged) where
  pub account-counted : sum ≡ amount_in rule.limit (counted (decode xs).log time (account_in xs i))
  unfolding counted
  account-counted =
      let log = (decode xs).log in
      let a = account_in xs i in
      let limit = a.rule.limit in
      sum_is_lem ∙ logged-is.same total
      ∙ ap (λ (r : Rule). counted_of r.kind total (amount_in r.limit (sum_of (entry_share r time) log))) is
      ∙ ap (λ (t : Amount). counted_of a.rule.kind t (amount_in limit (sum_of (entry_share a.rule time) log)))
      (total-is ∙ sym (in-number limit a.total (laid-measured h l)))
      ∙ counted-in a.rule.kind limit (number_of a.total) (sum_of (entry_share a.rule time) log)
      ∙ ap (λ (r : Rule). amount_in r.limit (counted log time a)) (sym is)

-- what remains of a limit, from what is counted against it
module _ (xs : List ℕ) (i time : ℕ) {rule : Rule} (is : rule ≡ (account_in xs i).rule) {sum : Amount} (sum_is_lem : sum ≡ amount_in rule.limit (counted (decode xs).log time (account_in xs i))) where
  pub account-measured : is_of rule.limit sum ≡ true
  account-measured = ap (is_of rule.limit) sum_is_lem ∙ of-in rule.limit _

  pub account-left : {r : Amount} → r ≡ amount_in rule.limit (ceiling rule.limit - number_of sum)
      → r ≡ amount_in rule.limit (left_of (decode xs) time (account_in xs i))
  unfolding left_of
  account-left e =
      let n = counted (decode xs).log time (account_in xs i) in
      e ∙ ap (λ (k : ℕ). amount_in rule.limit (ceiling rule.limit - k)) (ap number_of sum_is_lem ∙ number_in rule.limit n)
      ∙ ap (λ (q : Rule). amount_in rule.limit (ceiling q.limit - n)) is
