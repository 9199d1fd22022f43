-- What it is for a function's contract to determine what a call gives: two outcomes that meet it, of one call that meets what it asks, have the
-- same answer and leave the same in all that was lent. `Asked` and `Learnt` are a contract's plain claims, as the check makes them of its
-- clauses. Assumes nothing.
use Rattle.std.specs.Prelude.{ℕ, ◌≡◌, List, Result, IsOk}
use Rattle.std.specs.Fmt.{WritesInCalls, IsFlush, formatter_writer}
use Rattle.std.specs.declared.fmt.Formatter.{Formatter}
use Rattle.std.specs.declared.fmt.Error.{Error}
use Rattle.std.specs.declared.fmt.Write.{Ghosts}
use contract.Lifetimes.{Lfts}
use denote.Param.Laws.{Laws}
use denote.RattleType.{RattleType}
use denote.Triple.Clauses.{Lasts, at_exit}
use borrow.Fn.Kinds.{ParamKind, ResultKind, In, Out, Dens, res_t, ended_of}
use mir.Syntax.{Dict}

module _ (n : ℕ) (ps : List (ParamKind n)) (r : ResultKind n) where
  -- as far as `sees` tells answers apart
  abbrev pub DeterminesSeen : (Seen : Lfts n → Type 0) → ((κs : Lfts n) → (res_t r κs).Denot → Seen κs) → In n ps → Out n ps r → Type 0
  DeterminesSeen Seen sees Asked Learnt =
      (κs : Lfts n) (args : Dens κs ps) → Asked κs args
      → (x y : (res_t r κs).Denot) (u v : Lasts (ended_of n ps r) κs args)
      → Learnt κs args x (at_exit (ended_of n ps r) κs args u)
      → Learnt κs args y (at_exit (ended_of n ps r) κs args v)
      → (sees κs x ≡ sees κs y) × (u ≡ v)

  -- the whole answer
  abbrev pub Determines : In n ps → Out n ps r → Type 0
  Determines Asked Learnt = DeterminesSeen (λ κs. (res_t r κs).Denot) (λ κs x. x) Asked Learnt

-- what is seen of a writer after some bytes is determined by these, in however many pieces they came
abbrev pub OneAfter : {W Seen : Type 0} → (W → Seen) → (W → List ℕ → W → Type 0) → Type 0
OneAfter {W} sees took = (w u v : W) (bytes : List ℕ) → WritesInCalls took w bytes u → WritesInCalls took w bytes v → sees u ≡ sees v

module _ (n : ℕ) (ps : (W : RattleType) → Laws W → List (ParamKind n)) (r : (W : RattleType) → Laws W → ResultKind n) where
  -- what a call is lent to print by
  abbrev pub Lent : Type 2
  Lent = (W : RattleType) (L : Laws W) (κs : Lfts n) → Dens κs (ps W L) → Formatter W.Denot

  -- what it leaves there
  abbrev pub Left : Type 2
  Left = (W : RattleType) (L : Laws W) (κs : Lfts n) (args : Dens κs (ps W L)) → Lasts (ended_of n (ps W L) (r W L)) κs args → Formatter W.Denot

  -- whether it printed all
  abbrev pub Ended : Type 2
  Ended = (W : RattleType) (L : Laws W) (κs : Lfts n) → (res_t (r W L) κs).Denot → Result (Unit {0}) Error

  -- of any writer: two outcomes that printed all, by a formatter that indents nothing, leave the same to be seen of it
  abbrev pub DeterminesPrinted : Lent → Left → Ended → ((W : RattleType) (L : Laws W) → Ghosts W.Denot → Dict → In n (ps W L)) → ((W : RattleType) (L : Laws W) → Ghosts W.Denot → Dict → Out n (ps W L) (r W L)) → Type 2
  DeterminesPrinted lent left ended Asked Learnt =
      (W : RattleType) (L : Laws W) (g : Ghosts W.Denot) (d : Dict) (Seen : Type 0) (sees : W.Denot → Seen) → OneAfter sees g.write_str_gives
      → (κs : Lfts n) (args : Dens κs (ps W L)) → Asked W L g d κs args → IsFlush (lent W L κs args)
      → (x y : (res_t (r W L) κs).Denot) (u v : Lasts (ended_of n (ps W L) (r W L)) κs args)
      → Learnt W L g d κs args x (at_exit (ended_of n (ps W L) (r W L)) κs args u) → IsOk (ended W L κs x)
      → Learnt W L g d κs args y (at_exit (ended_of n (ps W L) (r W L)) κs args v) → IsOk (ended W L κs y)
      → sees (formatter_writer (left W L κs args u)) ≡ sees (formatter_writer (left W L κs args v))
