-- `state::covering::accounts_at` meets its contract: a root's rule without a unit has four accounts, and any other one. Assumes nothing.
use Rattle.state.proofs.Scopes.{four-accounts, one-account}
use Rattle.state.proofs.covering.accounts_at.Goals as goal

pub returns-then-scope_word-eq1 : goal.returns-then-scope_word-eq1
returns-then-scope_word-eq1 c = four-accounts _ _ _ c.scope_word.ensures.0 c.if-scope_word-eq1.true

pub returns : goal.returns
returns c = one-account _ _ _ c.scope_word.ensures.0 c.if-scope_word-eq1.false
