-- A line cut into the parts that are written one after the other. Assumes nothing.
use Prim.Native.Nat.{ℕ, ◌+◌, ◌≤◌, ◌<◌}
use mathlib.Core.Path.{◌≡◌, refl, sym, ap, ◌∙◌}
use mathlib.Core.Bool.{Bool, true, false, cond, ◌||◌}
use mathlib.Core.List.{List, [], ◌∷◌, ◌++◌, append-nil, append_assoc}
use lib.ListN.{length, length-append}
use lib.Seq.{sets}
use lib.Dec.{eqb, ltb}
use native.Mathlib.Decide.{dec_lt}
use native.Mathlib.Omega.{arith}
use Rattle.rules.specs.declared.Scope.{Scope}
use Rattle.rules.specs.declared.Scope.TheVariants.{EveryFill, WholeRoot, OneUnit}
use Rattle.rules.specs.declared.Kind.{Kind}
use Rattle.rules.specs.declared.Kind.TheVariants.{Rate, Absolute}
use Rattle.rules.specs.declared.Limit.{Limit}
use Rattle.rules.specs.declared.Limit.TheVariants.{Notional, Volume, Count}
use Rattle.rules.specs.declared.Rule.{Rule}
use Rattle.text.specs.Text.{bytes}
use Rattle.text.specs.Digits.{name_bytes, decimal}
use Rattle.text.proofs.Decimal.{decimal-some, decimal-few}
use Rattle.packing.specs.RulePlace.{limit_number}
use Rattle.writing.specs.Writing.{type_name, limit_text, window_text, root_text, level_text, call_put_text, month_text, field_texts, before_fields, trimmed, with_commas, line_text}
use Rattle.writing.specs.Inner.Parts.{after_comma, letters_text, end_text}

-- bytes that were written are a text if they are that text's
pub as-text : {words text : List ℕ} → words ≡ text → (was : List ℕ) (at : ℕ) {now : List ℕ} {r : ℕ} → r ≡ at + length words → now ≡ sets was at words
    → (r ≡ at + length text) × (now ≡ sets was at text)
as-text is was at e w = (e ∙ ap (λ (l : List ℕ). at + length l) is, w ∙ ap (sets was at) is)

-- the name of a type, and the comma after it
module _ {kind k : Kind} {limit l : Limit} (e : kind ≡ k) (f : limit ≡ l) where
  pub typed : type_name k l ++ (44 ∷ []) ≡ type_name kind limit ++ (44 ∷ [])
  typed = λ i. type_name (sym e i) (sym f i) ++ (44 ∷ [])

  pub type-room : length (type_name kind limit) + 1 ≡ length (type_name k l ++ (44 ∷ []))
  type-room = rw typed (sym (length-append (type_name kind limit) (44 ∷ [])))

pub type-few : (kind : Kind) (limit : Limit) → length (type_name kind limit) ≤ 10
unfolding type_name
type-few (Rate w) (Notional l) = omega arith
type-few (Rate w) (Volume l) = omega arith
type-few (Rate w) (Count l) = omega arith
type-few Absolute (Notional l) = omega arith
type-few Absolute (Volume l) = omega arith
type-few Absolute (Count l) = omega arith

-- fields that are kept: one that is not empty, and each before one that is kept
front-full : (f : List ℕ) (fs : List (List ℕ)) → 0 < length f → before_fields f fs ≡ f ∷ fs
unfolding before_fields
front-full [] fs h = absurd (omega arith)
front-full (x ∷ f) fs h = refl

front-some : (f g : List ℕ) (fs : List (List ℕ)) → before_fields f (g ∷ fs) ≡ f ∷ g ∷ fs
unfolding before_fields
front-some [] g fs = refl
front-some (x ∷ f) g fs = refl

commas-first : (f : List ℕ) (fs : List (List ℕ)) → with_commas (f ∷ fs) ≡ f ++ after_comma fs
unfolding with_commas after_comma
commas-first f [] = sym (append-nil f)
commas-first f (g ∷ fs) = refl

-- an empty field in front of others leaves nothing where they leave nothing, else its comma
empty-none : (fs : List (List ℕ)) → length (after_comma fs) ≡ 0 → after_comma (before_fields [] fs) ≡ []
unfolding after_comma before_fields
empty-none [] h = refl
empty-none (g ∷ fs) h = absurd (omega arith)

empty-some : (fs : List (List ℕ)) → 0 < length (after_comma fs) → after_comma (before_fields [] fs) ≡ 44 ∷ after_comma fs
unfolding after_comma before_fields with_commas
empty-some [] h = absurd (omega arith)
empty-some (g ∷ fs) h = refl

-- what stands after the time limit
pub letters-every : letters_text EveryFill ≡ 44 ∷ 84 ∷ []
unfolding letters_text level_text call_put_text month_text after_comma trimmed before_fields with_commas
letters-every = refl

pub letters-whole : (root : ℕ) → letters_text (WholeRoot root) ≡ []
unfolding letters_text level_text call_put_text month_text after_comma trimmed before_fields
letters-whole root = refl

pub letters-unit : (root unit : ℕ) → letters_text (OneUnit root unit) ≡ 44 ∷ 44 ∷ cond (ltb unit 2) 67 80 ∷ 44 ∷ cond (eqb unit 0 || eqb unit 2) 70 84 ∷ []
unfolding letters_text level_text call_put_text month_text after_comma trimmed before_fields with_commas
letters-unit root unit = go (ltb unit 2) (eqb unit 0 || eqb unit 2)
  where
    go : (c f : Bool) → after_comma (trimmed ([] ∷ cond c (bytes "C") (bytes "P") ∷ cond f (bytes "F") (bytes "T") ∷ []))
        ≡ 44 ∷ 44 ∷ cond c 67 80 ∷ 44 ∷ cond f 70 84 ∷ []
    go true true = refl
    go true false = refl
    go false true = refl
    go false false = refl

pub letters-few : (scope : Scope) → length (letters_text scope) ≤ 5
letters-few EveryFill = rw letters-every (omega arith)
letters-few (WholeRoot root) = rw (letters-whole root) (omega arith)
letters-few (OneUnit root unit) = rw (letters-unit root unit) (omega arith)

-- what stands after the limit value
pub end-rate : (w : ℕ) (scope : Scope) → end_text (Rate w) scope ≡ 44 ∷ (decimal w ++ letters_text scope)
unfolding end_text letters_text window_text trimmed after_comma
end-rate w scope =
    let rest = trimmed (level_text scope ∷ call_put_text scope ∷ month_text scope ∷ []) in
    ap after_comma (front-full (decimal w) rest (decimal-some w)) ∙ ap (λ (l : List ℕ). 44 ∷ l) (commas-first (decimal w) rest)

pub rate-long : (w : ℕ) (scope : Scope) → length (end_text (Rate w) scope) ≡ 1 + length (decimal w) + length (letters_text scope)
rate-long w scope = rw (end-rate w scope, length-append (decimal w) (letters_text scope)) (omega arith)

module _ (scope : Scope) where
  pub end_none : length (letters_text scope) ≡ 0 → end_text Absolute scope ≡ []
  unfolding end_text letters_text window_text trimmed
  end_none h = empty-none (trimmed (level_text scope ∷ call_put_text scope ∷ month_text scope ∷ [])) h

  pub end_more : 0 < length (letters_text scope) → end_text Absolute scope ≡ 44 ∷ letters_text scope
  unfolding end_text letters_text window_text trimmed
  end_more h = empty-some (trimmed (level_text scope ∷ call_put_text scope ∷ month_text scope ∷ [])) h

pub absolute-few : (scope : Scope) → length (end_text Absolute scope) ≤ 6
absolute-few scope = go (dec_lt 0 (length (letters_text scope)))
  where
    go : Dec (0 < length (letters_text scope)) → length (end_text Absolute scope) ≤ 6
    go (yes h) = omega (arith, ap length (end_more scope h), letters-few scope)
    go (no h) = omega (arith, ap length (end_none scope (omega arith)))

pub end-few : (kind : Kind) (scope : Scope) → length (end_text kind scope) ≤ 26
end-few (Rate w) scope = omega (arith, rate-long w scope, decimal-few w, letters-few scope)
end-few Absolute scope = omega (arith, absolute-few scope)

-- a limit in digits
limit-digits : (limit : Limit) → limit_text limit ≡ decimal (limit_number limit)
unfolding limit_text
limit-digits (Notional l) = refl
limit-digits (Volume l) = refl
limit-digits (Count l) = refl

-- the whole line, and how long it is
module _ (firm : ℕ) (roots : List ℕ) (rule : Rule) where
  abbrev pub type : List ℕ
  type = type_name rule.kind rule.limit

  abbrev pub root : List ℕ
  root = root_text roots rule.scope

  abbrev pub limit : List ℕ
  limit = decimal (limit_number rule.limit)

  abbrev pub end : List ℕ
  end = end_text rule.kind rule.scope

  line-cut : line_text firm roots rule ≡ name_bytes firm ++ (44 ∷ (type ++ (44 ∷ (root ++ (44 ∷ (limit ++ end))))))
  unfolding line_text field_texts end_text trimmed with_commas
  line-cut =
      let last = trimmed (window_text rule.kind ∷ level_text rule.scope ∷ call_put_text rule.scope ∷ month_text rule.scope ∷ []) in
      rw (limit-digits rule.limit, front-full limit last (decimal-some (limit_number rule.limit)), front-some root limit last, front-some type root (limit ∷ last), front-some (name_bytes firm) type (root ∷ limit ∷ last))
      (ap (λ (l : List ℕ). name_bytes firm ++ (44 ∷ (type ++ (44 ∷ (root ++ (44 ∷ l)))))) (commas-first limit last))

  pub line-parts : line_text firm roots rule ++ (10 ∷ []) ≡ (name_bytes firm ++ (44 ∷ [])) ++ ((type ++ (44 ∷ [])) ++ ((root ++ (44 ∷ [])) ++ (limit ++ (end ++ (10 ∷ [])))))
  line-parts = rw line-cut (simp append_assoc)

  pub line-long : length (line_text firm roots rule) ≡ length (name_bytes firm) + length type + length root + length limit + length end + 3
  line-long = rw line-cut (simp length-append (omega arith))
