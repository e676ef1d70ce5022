-- Laws of a list whose first places are given (specs/Filled): what a loop that fills it asks.
--   fill_turn, fill_end   one more place, and the loop's end
--   fill_length           as long as before
--   fill_before           a place that is filled
--   fill_at               the same of a list that is such a list
--   fill_after            a place that is not
--   fill_alike            by two rules that agree on the places filled
use Rattle.std.proofs.Common.{◌≡◌, ℕ, zero, suc, ◌+◌, ◌<◌, ◌≤◌, List, length, get_or, set, sym, refl, ap, ◌∙◌, arith, length-set, get_or-set_other, get_or-set_same}
use native.Mathlib.Decide.{dec_lt}
use Rattle.elementary.specs.Filled.{filled}

module _ {A : Type 0} where
  pub fill_turn : (F : ℕ → A) (l l₀ : List A) (i : ℕ) (v : A) → l ≡ filled F i l₀ → v ≡ F i
      → set l i v ≡ filled F (i + 1) l₀
  unfolding filled
  fill_turn F l l₀ i v e h =
      let n : i + 1 ≡ suc i = omega arith in
      rw (e, h) (sym (ap (λ (m : ℕ). filled F m l₀) n))

  pub fill_end : (F : ℕ → A) (l l₀ : List A) (i n : ℕ) → l ≡ filled F i l₀ → i ≤ n → n ≤ i → l ≡ filled F n l₀
  fill_end F l l₀ i n e h k =
      let m : i ≡ n = omega arith in
      e ∙ ap (λ (m : ℕ). filled F m l₀) m

  pub fill_length : (F : ℕ → A) (n : ℕ) (l : List A) → length (filled F n l) ≡ length l
  unfolding filled
  fill_length F zero l = refl
  fill_length F (suc n) l = length-set (filled F n l) n (F n) ∙ fill_length F n l

  pub fill_after : (F : ℕ → A) (n m : ℕ) (l : List A) (d : A) → n ≤ m → get_or (filled F n l) m d ≡ get_or l m d
  unfolding filled
  fill_after F zero m l d h = refl
  fill_after F (suc n) m l d h =
      get_or-set_other (filled F n l) n m (F n) d (omega arith) ∙ fill_after F n m l d (omega arith)

  pub fill_before : (F : ℕ → A) (n i : ℕ) (l : List A) (d : A) → i < n → i < length l → get_or (filled F n l) i d ≡ F i
  unfolding filled
  fill_before F zero i l d h k = absurd (omega arith)
  fill_before F (suc n) i l d h k = at (dec_lt i n) (λ x. fill_before F n i l d x k)
    where
      at : Dec (i < n) → (i < n → get_or (filled F n l) i d ≡ F i) → get_or (set (filled F n l) n (F n)) i d ≡ F i
      at (yes x) rest = get_or-set_other (filled F n l) n i (F n) d (omega arith) ∙ rest x
      at (no x) rest =
          let e : i ≡ n = omega arith in
          rw e (get_or-set_same (filled F n l) n (F n) d (omega (arith, fill_length F n l)))

  pub fill_at : (F : ℕ → A) (l l₀ : List A) (n i : ℕ) (d : A) → l ≡ filled F n l₀ → n ≤ length l₀ → i < n
      → get_or l i d ≡ F i
  fill_at F l l₀ n i d e k h = ap (λ (m : List A). get_or m i d) e ∙ fill_before F n i l₀ d h (omega arith)

  pub fill_alike : (F G : ℕ → A) (n : ℕ) (l : List A) → ((i : ℕ) → i < n → F i ≡ G i) → filled F n l ≡ filled G n l
  unfolding filled
  fill_alike F G zero l h = refl
  fill_alike F G (suc n) l h = rw (fill_alike F G n l (λ i k. h i (omega arith)), h n (omega arith)) refl
