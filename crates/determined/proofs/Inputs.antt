-- The contracts of `inputs` determine what a call gives: one theorem for each public function, those that read apart. Assumes nothing.
use Rattle.std.proofs.Common.{◌≡◌, ◌≢◌, ◌∙◌, sym, ap, refl, ℕ, Result, arith}
use Rattle.std.specs.Prelude.{IfOk, IfErr}
use Rattle.std.specs.IoError.{error_kind}
use Rattle.std.specs.declared.io.Error.{Error}
use Rattle.std.specs.declared.io.ErrorKind.TheVariants.{BrokenPipe}
use Rattle.std.specs.declared.result.Result.TheVariants.{Ok, Err}
use Rattle.determined.specs.Determines.{Determines}
use Rattle.inputs.proofs.unless_gone.Kinds as unless-gone-kinds
use Rattle.inputs.proofs.unless_gone.Reads as unless-gone-reads

-- how a program that prints may end: 1 for a failure
abbrev failures : Result (Unit {0}) Error → ℕ
failures (Ok x) = 0
failures (Err e) = 1

apart : (x : Unit {0}) (e : Error) → ◌≡◌ {A = Result (Unit {0}) Error} (Ok x) (Err e) → ⊥
apart x e same = let w : ◌≡◌ {A = ℕ} 0 1 = ap failures same in omega arith

-- what the three clauses say of an answer
abbrev Ends : Result (Unit {0}) Error → Result (Unit {0}) Error → Type 0
Ends ended x = IfOk ended (λ r. x ≡ Ok r) × (IfErr ended (λ e. error_kind e ≡ BrokenPipe → x ≡ Ok tt) × IfErr ended (λ e. error_kind e ≢ BrokenPipe → x ≡ Err e))

-- a failure is a reader that went away or another one, whichever of the two answers is looked at
one_end : (ended x y : Result (Unit {0}) Error) → Ends ended x → Ends ended y → x ≡ y
one_end (Ok r) x y p q = p.0 ∙ sym q.0
one_end (Err e) (Ok a) (Ok b) p q = refl
one_end (Err e) (Ok a) (Err b) p q = absurd (apart a e (p.1.1 (λ gone. apart tt b (sym (q.1.0 gone)))))
one_end (Err e) (Err a) (Ok b) p q = absurd (apart b e (q.1.1 (λ gone. apart tt a (sym (p.1.0 gone)))))
one_end (Err e) (Err a) (Err b) p q = let other = λ (gone : error_kind e ≡ BrokenPipe). apart tt a (sym (p.1.0 gone)) in p.1.1 other ∙ sym (q.1.1 other)

pub unless-gone : Determines 0 unless-gone-kinds.ps unless-gone-kinds.r unless-gone-reads.Asked unless-gone-reads.Learnt
unless-gone κs args asked x y u v p q = (one_end args.0 x y p q, refl)
