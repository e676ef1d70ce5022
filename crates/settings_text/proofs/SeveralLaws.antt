-- Words read one after the other into an array, against `several`.
--   before_all vs x                               numbers before others
--   words-start, words-on, words_off, words-end   the loop: its start, a word, what is no W, and its end
use mathlib.Core.Path.{◌≡◌, refl, sym, ap, ◌∙◌}
use Prim.Native.Nat.{ℕ, suc, ◌+◌, ◌-◌, ◌<◌}
use native.Mathlib.Omega.{arith}
use native.Mathlib.Numerals.{add-one}
use mathlib.Core.Bool.{Bool, true, false, cond}
use mathlib.Core.List.{List, [], ◌∷◌, ◌++◌, append-nil, append_assoc}
use lib.ListN.{length, drop, take, set}
use lib.Seq.{take-suc-set, take_all}
use Rattle.std.specs.Prelude.{Option, Some, None, option_map}
use Rattle.settings_text.specs.declared.Token.{Token}
use Rattle.settings_text.specs.declared.Token.TheVariants.{Opened, Closed, Word, End}
use Rattle.settings_text.specs.Text.{Part, parts}
use Rattle.settings_text.specs.Numbers.{bits}
use Rattle.settings_text.specs.Places.{part_at, part_of, parts_from, bits_in, next_bits}
use Rattle.settings_text.specs.Forms.{before, several, closes}
use Rattle.settings_text.proofs.PartLaws.{parts_at}

-- numbers before others
abbrev pub before_all : List ℕ → Option (List ℕ) → Option (List ℕ)
before_all vs x = option_map (λ ws. vs ++ ws) x

before_snoc : (vs : List ℕ) (v : ℕ) (x : Option (List ℕ)) → before_all (vs ++ (v ∷ [])) x
    ≡ before_all vs (before (Some v) x)
unfolding before
before_snoc vs v None = refl
before_snoc vs v (Some ws) = rw append_assoc

-- one word more, by what the code found
stepped : ℕ → List ℕ → Option (ℕ × ℕ) → Option (List ℕ)
stepped k s None = None
stepped k s (Some f) = before (Some f.0) (several k (parts (drop f.1 s)))

step-word : (k : ℕ) (s : List ℕ) (to : ℕ) (x : Option ℕ) → before x (several k (parts (drop to s)))
    ≡ stepped k s (option_map (λ v. (v, to)) x)
unfolding stepped before
step-word k s to (Some v) = refl
step-word k s to None = refl

step_piece : (k : ℕ) (s : List ℕ) (p : Token) → several (suc k) (parts_from s p) ≡ stepped k s (bits_in s p)
unfolding several parts_from bits_in stepped
step_piece k s End = refl
step_piece k s (Opened i) = refl
step_piece k s (Closed i) = refl
step_piece k s (Word a e) = step-word k s e (bits (part_of s a e))

step-at : (k : ℕ) (s : List ℕ) (i : ℕ) → several (suc k) (parts (drop i s)) ≡ stepped k s (next_bits s i)
unfolding next_bits
step-at k s i = rw (parts_at s i) (step_piece k s (part_at s i))

step_is : (k : ℕ) (s : List ℕ) (i v to : ℕ) → next_bits s i ≡ Some (v, to) → several (suc k) (parts (drop i s))
    ≡ before (Some v) (several k (parts (drop to s)))
unfolding stepped
step_is k s i v to e = step-at k s i ∙ rw e

step-not : (k : ℕ) (s : List ℕ) (i : ℕ) → next_bits s i ≡ None → several (suc k) (parts (drop i s)) ≡ None
unfolding stepped
step-not k s i e = step-at k s i ∙ rw e

-- ---- the loop: what all k words from some place on say, by the first j of them and the k - j from `at` on

pub words-start : (k : ℕ) (ps : List Part) → several k ps ≡ before_all [] (several (k - 0) ps)
words-start k ps =
    let d : k - 0 ≡ k = omega arith in
    rw d (go (several k ps))
  where
    go : (x : Option (List ℕ)) → x ≡ before_all [] x
    go None = refl
    go (Some ws) = refl

module _ (s : List ℕ) (k j at : ℕ) (values : List ℕ) (x : Option (List ℕ))
    (inv : x ≡ before_all (take j values) (several (k - j) (parts (drop at s)))) where
  pub words-on : (v to : ℕ) → j < k → j < length values → next_bits s at ≡ Some (v, to)
      → x ≡ before_all (take (j + 1) (set values j v)) (several (k - (j + 1)) (parts (drop to s)))
  words-on v to h l e =
      let d : k - j ≡ suc (k - (j + 1)) = omega arith in
      inv ∙ rw (d, step_is (k - (j + 1)) s at v to e, add-one j, take-suc-set values j v l)
      (sym (before_snoc (take j values) v (several (k - suc j) (parts (drop to s)))))

  pub words_off : j < k → next_bits s at ≡ None → None ≡ x
  words_off h e =
      let d : k - j ≡ suc (k - (j + 1)) = omega arith in
      sym (inv ∙ rw (d, step-not (k - (j + 1)) s at e) refl)

  pub words-end : j ≡ k → length values ≡ k → cond (closes (parts (drop at s))) (Some values) None ≡ x
  unfolding several
  words-end e l =
      let d : k - j ≡ 0 = omega arith in
      sym (inv ∙ rw (d, take_all j values (omega arith)) (go (closes (parts (drop at s)))))
    where
      go : (t : Bool) → before_all values (cond t (Some []) None) ≡ cond t (Some values) None
      go true = ap Some (append-nil values)
      go false = refl
