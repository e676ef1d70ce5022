-- Turns of the loops over days.
--   introduce_turn, introduce_end   a day with one more card introduced, and the end
--   added                           a chance is added to its day as a cost is
--   range_turn, range_end           a day with one more chance, and the end
--   chance-at                       the chances of a block, by its days
--   block_start, block_turn         the loop over a block's days
--   blocks_turn                     a whole block
--   strides_turn                    a block of up to 64 days, and on by 64 days
use mathlib.Core.Path.{◌≡◌, refl, sym, ap, ap₂, ◌∙◌}
use mathlib.Core.List.{List, [], ◌∷◌}
use Prim.Native.Nat.{ℕ, zero, suc, ◌+◌, ◌-◌, ◌≤◌, ◌<◌, min}
use native.Mathlib.Nat.{le_trans, le_of_eq}
use native.Mathlib.Omega.{arith}
use lib.IntN.{pos}
use lib.ListN.{get_or, set, length}
use lib.Ieee.{Float, nan, binary32, add, sub, of_int}
use Rattle.elementary.specs.Filled.{filled}
use Rattle.elementary.proofs.Filled.{fill_at, fill_length}
use Rattle.days.specs.Counts.{add_introduced, add_introduced_from}
use Rattle.float32.specs.Numbers.{0ᶠ}
use Rattle.days.specs.Sums.{add_cost, add_memorized, add_forgetting_curve_range}

-- what is left to introduce equals the whole
pub introduce_turn : (l l' l₀ : List (List ℕ)) (d to from : ℕ)
    → add_introduced_from l (to - d) d ≡ add_introduced_from l₀ (to - from) from
    → d < to
    → l' ≡ add_introduced l d
    → add_introduced_from l' (to - (d + 1)) (d + 1) ≡ add_introduced_from l₀ (to - from) from
unfolding add_introduced_from
introduce_turn l l' l₀ d to from e h el =
    let n : to - d ≡ suc (to - (d + 1)) = omega arith in
    rw el (sym (ap (λ (m : ℕ). add_introduced_from l m d) n) ∙ e)

pub introduce_end : (l l₀ : List (List ℕ)) (d to from : ℕ)
    → add_introduced_from l (to - d) d ≡ add_introduced_from l₀ (to - from) from
    → to ≤ d
    → l ≡ add_introduced_from l₀ (to - from) from
unfolding add_introduced_from
introduce_end l l₀ d to from e h =
    let n : to - d ≡ 0 = omega arith in
    sym (ap (λ (m : ℕ). add_introduced_from l m d) n) ∙ e

-- whatever a place past the list's end is read as
added_by : (y z : Float) (l : List Float) (d : ℕ) (x : Float)
    → set l d (add binary32 (get_or l d y) x) ≡ set l d (add binary32 (get_or l d z) x)
added_by y z [] d x = refl
added_by y z (k ∷ l) zero x = refl
added_by y z (k ∷ l) (suc d) x = ap (λ (l : List Float). k ∷ l) (added_by y z l d x)

pub added : (l : List Float) (d : ℕ) (x : Float) → add_cost 0ᶠ (λ x y. add binary32 x y) l d x ≡ add_memorized l d x
unfolding add_cost add_memorized
added l d x = added_by 0ᶠ nan l d x

-- what is left to add equals the whole
module _ (chance : Float → Float) (last : Float) where
  pub range_turn : (l l' l₀ : List Float) (d to from : ℕ) (t x : Float)
      → add_forgetting_curve_range chance l (to - d) d last ≡ add_forgetting_curve_range chance l₀ (to - from) from last
      → d < to
      → t ≡ of_int binary32 (pos d)
      → x ≡ chance (sub binary32 t last)
      → l' ≡ add_memorized l d x
      → add_forgetting_curve_range chance l' (to - (d + 1)) (d + 1) last
      ≡ add_forgetting_curve_range chance l₀ (to - from) from last
  unfolding add_forgetting_curve_range
  range_turn l l' l₀ d to from t x e h et ex el =
      let n : to - d ≡ suc (to - (d + 1)) = omega arith in
      rw (el, ex, et) (sym (ap (λ (m : ℕ). add_forgetting_curve_range chance l m d last) n) ∙ e)

  pub range_end : (l l₀ : List Float) (d to from : ℕ)
      → add_forgetting_curve_range chance l (to - d) d last ≡ add_forgetting_curve_range chance l₀ (to - from) from last
      → to ≤ d
      → l ≡ add_forgetting_curve_range chance l₀ (to - from) from last
  unfolding add_forgetting_curve_range
  range_end l l₀ d to from e h =
      let n : to - d ≡ 0 = omega arith in
      sym (ap (λ (m : ℕ). add_forgetting_curve_range chance l m d last) n) ∙ e

  -- ---- in blocks
  -- the chances of a block, from the list of its times
  pub chance-at : (times times₀ chances : List Float) (d n k i : ℕ) → k ≡ n → n ≤ length times₀
      → times ≡ filled (λ i. sub binary32 (of_int binary32 (pos (d + i))) last) n times₀
      → chances ≡ filled (λ i. chance (get_or times i nan)) k times
      → i < n → get_or chances i nan ≡ chance (sub binary32 (of_int binary32 (pos (d + i))) last)
  chance-at times times₀ chances d n k i all long et ec h =
      let same = ap length et ∙ fill_length _ n times₀ in
      fill_at _ chances times n i nan (ec ∙ ap (λ (m : ℕ). filled (λ i. chance (get_or times i nan)) m times) all)
      (le_trans long (le_of_eq (sym same))) h
      ∙ ap chance (fill_at _ times times₀ n i nan et long h)

  pub block_start : (l : List Float) (d n : ℕ)
      → add_forgetting_curve_range chance l (n - 0) (d + 0) last ≡ add_forgetting_curve_range chance l n d last
  block_start l d n =
      let e : n - 0 ≡ n = omega arith in
      let f : d + 0 ≡ d = omega arith in
      ap₂ (λ (m b : ℕ). add_forgetting_curve_range chance l m b last) e f

  pub block_turn : (l all chances : List Float) (d n i : ℕ) → i < n
      → get_or chances i nan ≡ chance (sub binary32 (of_int binary32 (pos (d + i))) last)
      → add_forgetting_curve_range chance l (n - i) (d + i) last ≡ all
      → add_forgetting_curve_range chance (set l (d + i) (add binary32 (get_or l (d + i) nan) (get_or chances i nan)))
      (n - (i + 1)) (d + (i + 1)) last ≡ all
  unfolding add_forgetting_curve_range add_memorized
  block_turn l all chances d n i h ec e =
      let m : n - i ≡ suc (n - (i + 1)) = omega arith in
      let f : d + (i + 1) ≡ d + i + 1 = omega arith in
      rw (f, ec) (sym (ap (λ (m : ℕ). add_forgetting_curve_range chance l m (d + i) last) m) ∙ e)

  pub block_end : (l all : List Float) (d n i : ℕ) → n ≤ i
      → add_forgetting_curve_range chance l (n - i) (d + i) last ≡ all → l ≡ all
  unfolding add_forgetting_curve_range
  block_end l all d n i h e =
      let m : n - i ≡ 0 = omega arith in
      sym (ap (λ (m : ℕ). add_forgetting_curve_range chance l m (d + i) last) m) ∙ e

  -- n days, and then m
  range_add : (n m d : ℕ) (l : List Float) → add_forgetting_curve_range chance l (n + m) d last
      ≡ add_forgetting_curve_range chance (add_forgetting_curve_range chance l n d last) m (d + n) last
  unfolding add_forgetting_curve_range
  range_add zero m d l =
      let e : 0 + m ≡ m = omega arith in
      let f : d ≡ d + 0 = omega arith in
      ap₂ (λ (k b : ℕ). add_forgetting_curve_range chance l k b last) e f
  range_add (suc n) m d l =
      let e : suc n + m ≡ suc (n + m) = omega arith in
      let f : d + 1 + n ≡ d + suc n = omega arith in
      let l' = add_memorized l d (chance (sub binary32 (of_int binary32 (pos d)) last)) in
      ap (λ (k : ℕ). add_forgetting_curve_range chance l k d last) e ∙ range_add n m (d + 1) l'
      ∙ ap (λ (b : ℕ). add_forgetting_curve_range chance (add_forgetting_curve_range chance l' n (d + 1) last) m b last) f

  pub blocks_turn : (l l' l₀ : List Float) (d to from n : ℕ)
      → add_forgetting_curve_range chance l (to - d) d last ≡ add_forgetting_curve_range chance l₀ (to - from) from last
      → n ≤ to - d
      → l' ≡ add_forgetting_curve_range chance l n d last
      → add_forgetting_curve_range chance l' (to - (d + n)) (d + n) last
      ≡ add_forgetting_curve_range chance l₀ (to - from) from last
  blocks_turn l l' l₀ d to from n e h el =
      let m : to - d ≡ n + (to - (d + n)) = omega arith in
      ap (λ (k : List Float). add_forgetting_curve_range chance k (to - (d + n)) (d + n) last) el
      ∙ sym (range_add n (to - (d + n)) d l)
      ∙ sym (ap (λ (m : ℕ). add_forgetting_curve_range chance l m d last) m) ∙ e

  -- the first of the days plays no part where none is left
  rest : (l : List Float) (m a b : ℕ) → (0 < m → a ≡ b)
      → add_forgetting_curve_range chance l m a last ≡ add_forgetting_curve_range chance l m b last
  unfolding add_forgetting_curve_range
  rest l zero a b same = refl
  rest l (suc m) a b same = ap (λ (a : ℕ). add_forgetting_curve_range chance l (suc m) a last) (same (omega arith))

  pub strides_turn : (l l' l₀ : List Float) (d to from n : ℕ)
      → add_forgetting_curve_range chance l (to - d) d last ≡ add_forgetting_curve_range chance l₀ (to - from) from last
      → n ≡ min (to - d) 64
      → l' ≡ add_forgetting_curve_range chance l n d last
      → add_forgetting_curve_range chance l' (to - (d + 64)) (d + 64) last
      ≡ add_forgetting_curve_range chance l₀ (to - from) from last
  strides_turn l l' l₀ d to from n e en el =
      let m : to - (d + 64) ≡ to - (d + n) = omega (arith, en) in
      rest l' _ _ _ (λ h. omega (arith, en, h))
      ∙ ap (λ (m : ℕ). add_forgetting_curve_range chance l' m (d + n) last) m
      ∙ blocks_turn l l' l₀ d to from n e (omega (arith, en)) el
