-- The next trial of a state in range lies between its ends.
--   trial_strides   it is a stride: away from the best retention and from the end ahead of it
--   trial-place     it is a multiple of 2^-24
use mathlib.Core.Path.{◌≡◌, refl, sym, ap, ◌∙◌, subst}
use mathlib.Core.Bool.{Bool, true, false, cond, ◌&&◌, ◌||◌, true≢false}
use Prim.Native.Nat.{ℕ, zero, suc, ◌+◌, ◌-◌, ◌*◌, ◌/◌, ◌^◌, ◌≤◌, ◌<◌}
use native.Mathlib.Nat.{le_trans, le_of_eq, mul-pos, mul-le-mul_right, mul-lt-mul_of_pos_right, zero-mul}
use native.Mathlib.Omega.{arith}
use borrow.Author.Tests.{leb-true, leb-false}
use lib.Dec.{T, leb}
use lib.Ieee.{Float, binary32, of_bits, of_fields, round, neg, lt, le, fits}
use lib.Ieee.Bits.{is_true}
use lib.Ieee.Fits.{add-fits, neg-fits, cond-fits}
use lib.Ieee.Exact.{HasValue}
use lib.Ieee.Order.{le_of_values}
use lib.Ieee.Positive.{num, den, den_pos}
use Rattle.float32.specs.Float32 as Float32
use Rattle.float32.specs.Ops.{◌+ᶠ◌, ◌-ᶠ◌, ◌*ᶠ◌, ◌/ᶠ◌}
use Rattle.brent.specs.declared.Brent.{Brent}
use Rattle.brent.specs.declared.Parabola.{Parabola}
use Rattle.float32.specs.Numbers.{0ᶠ}
use Rattle.brent.specs.Step.{cg, two, tol1, tol2, middle, converged, to_end, golden, parabola, useful, near_end}
use Rattle.brent.specs.Step.{inward, fitted, parabolic, moved, stepped, trial_of, trial}
use Rattle.brent.proofs.Values.{le-vals, below-yes, round_flip, neg_value}
use Rattle.brent.proofs.Multiples.{N, At, In, Place, placed, rounded_in, widen, at_in}
use Rattle.brent.proofs.Operations.{mul_at, minus_over, minus_under, step_up, step_down}
use Rattle.brent.proofs.Measures.{tol1_in, tol2_in, middle-at, Room, room}
use Rattle.brent.proofs.Quotients.{Fit, forth, hither, fit_moves, mul_add_fits}
use Rattle.brent.proofs.Moves.{Roomy, ahead, back, none, Strides, right, left, sign_yes, sign_no}
use Rattle.brent.proofs.Moves.{stepped_strides}
use Rattle.brent.proofs.Range.{Ranged}

cg_is : HasValue cg false 12816652 (2 ^ 25)
unfolding of_bits of_fields round
cg_is = (refl, refl)

positive_num : (d n lo : ℕ) → 0 < d → 0 < lo → lo * d ≤ n * N → 0 < n
positive_num d zero lo D L h = absurd (go (lo * d) (mul-pos L D) h)
  where
    go : (x : ℕ) → 0 < x → x ≤ 0 * N → ⊥
    go x p q = omega arith
positive_num d (suc n) lo D L h = omega arith

le_no : (x y : Float) (k l : ℕ) → At x k → At y l → l < k → le x y ≡ false
le_no x y k l p q h = go (le x y) refl
  where
    clash : k * N ≤ l * N → ⊥
    clash e = omega arith

    go : (b : Bool) → le x y ≡ b → b ≡ false
    go true e = absurd (clash (le-vals x y k N l N (omega arith) (omega arith) p q (subst T (sym e) tt)))
    go false e = refl

-- what is not below twice the least step
far_enough : (y t : Float) (D : ℕ) → At y D → In 234000 320000 t → lt y t ≡ false → 234000 ≤ D
far_enough y t D p r h = go (leb 234000 D) (leb-true 234000 D) (leb-false 234000 D)
  where
    under : (d n : ℕ) → 0 < d → 234000 * d ≤ n * N → D < 234000 → D * d < n * N
    under d n P l u = let z : D * d < 234000 * d = mul-lt-mul_of_pos_right u P in omega arith

    go : (b : Bool) → (b ≡ true → 234000 ≤ D) → (b ≡ false → D < 234000) → 234000 ≤ D
    go true f g = f refl
    go false f g =
        absurd (true≢false (sym (below-yes y t D N (num t) (den t) (omega arith) (den_pos t) p r.value
        (under (den t) (num t) (den_pos t) r.least (g refl))) ∙ h))

or-first : (a b : Bool) → (a || b) ≡ false → a ≡ false
or-first true b h = absurd (true≢false h)
or-first false b h = refl

or-second : (a b : Bool) → (a || b) ≡ false → b ≡ false
or-second true b h = absurd (true≢false h)
or-second false b h = h

and_first : (a b : Bool) → (a && b) ≡ true → a ≡ true
and_first true b h = refl
and_first false b h = absurd (true≢false (sym h))

and_second : (a b : Bool) → (a && b) ≡ true → b ≡ true
and_second true b h = h
and_second false b h = absurd (true≢false (sym h))

module _ (s : Brent) (r : Ranged s) (going : converged s ≡ false) where
  abbrev mid : Float
  mid = middle s.a s.b

  place : Place ((r.i + r.j) / 2) ((r.i + r.j) / 2 + 1) mid
  place = middle-at s.a s.b r.i r.j r.A r.B r.low (le_trans r.ik r.kj) r.high

  spare : Room r.i r.k r.j place.k
  unfolding converged
  spare = room s.a s.b s.x r.i r.k r.j r.A r.B r.X r.low r.ik r.kj
      r.high place going

  least_in : In 117000 160000 (tol1 s.x)
  least_in = tol1_in s.x r.k r.X (le_trans r.low r.ik) (le_trans r.kj r.high)

  twice_in : In 234000 320000 (tol2 s.x)
  twice_in = tol2_in s.x r.k r.X (le_trans r.low r.ik) (le_trans r.kj r.high)

  scale_up : (n d c e : ℕ) → n * N ≤ c * d → c ≤ e → n * N ≤ e * d
  scale_up n d c e h l = le_trans h (mul-le-mul_right d l)

  -- ---- a move by at most c
  go_ahead : (rat : Float) (n d c : ℕ) → 0 < d → HasValue rat false n d → n * N ≤ c * d → r.k + c + 73000 ≤ r.j
      → r.k + 233000 ≤ r.j → Roomy r.i r.k r.j s.x rat
  go_ahead rat n d c D v h l m =
      ahead n d (r.k + c) D v (scale_up n d c (r.j - r.k) h (omega arith))
      (widen (r.k + 0) (r.k + c) r.k (r.k + c) (s.x +ᶠ rat) (omega arith) (omega arith)
      (step_up s.x rat r.k n d 0 c D r.X v (le_trans (le_of_eq (zero-mul d)) (omega arith)) h
      (omega (arith, r.high)))) l m

  go_back : (rat : Float) (n d c : ℕ) → 0 < d → 0 < n → HasValue rat true n d → n * N ≤ c * d → r.i + c + 73000 ≤ r.k
      → r.i + 233000 ≤ r.k → Roomy r.i r.k r.j s.x rat
  go_back rat n d c D P v h l m =
      back n d (r.k - c) D P v (scale_up n d c (r.k - r.i) h (omega arith))
      (widen (r.k - c) (r.k - 0) (r.k - c) r.k (s.x +ᶠ rat) (omega arith) (omega arith)
      (step_down s.x rat r.k n d 0 c D r.X v (le_trans (le_of_eq (zero-mul d)) (omega arith)) h
      (omega arith) (omega arith) (omega (arith, r.kj, r.high)))) (omega arith) m

  -- ---- a golden section
  golden_roomy : Roomy r.i r.k r.j s.x (cg *ᶠ to_end s)
  unfolding to_end
  golden_roomy = go (leb place.k r.k) (leb-true place.k r.k) (leb-false place.k r.k)
    where
      one-low : (x : ℕ) → 233000 ≤ x → 1 * (2 ^ 25 * N) ≤ 12816652 * x * N
      one-low x h = omega arith

      high : (x : ℕ) → 233000 ≤ x → 12816652 * x * N ≤ x / 2 * (2 ^ 25 * N)
      high x h = omega arith

      y : ℕ → Float
      y x = round binary32 false (12816652 * x) (2 ^ 25 * N)

      y_in : (x : ℕ) → 233000 ≤ x → x < 2 ^ 24 → In 1 (x / 2) (y x)
      y_in x h H = rounded_in 1 (x / 2) (12816652 * x) (2 ^ 25 * N) (omega arith) (omega arith) (one-low x h) (high x h)

      go : (b : Bool) → (b ≡ true → place.k ≤ r.k) → (b ≡ false → r.k < place.k)
          → Roomy r.i r.k r.j s.x (cg *ᶠ (cond (le mid s.x) s.a s.b -ᶠ s.x))
      go true f g =
          let h : r.i + 233000 ≤ r.k = spare.right (f refl) in
          let w : In 1 ((r.k - r.i) / 2) (y (r.k - r.i)) = y_in (r.k - r.i) (omega arith)
          (omega (arith, r.kj, r.high)) in
          rw (
            is_true (le mid s.x) (le_of_values mid s.x place.k N r.k N (omega arith) (omega arith)
                place.at r.X (mul-le-mul_right N (f refl))),
            mul_at cg (s.a -ᶠ s.x) false true 12816652 (2 ^ 25) (r.k - r.i) N (omega arith) (omega arith) cg_is
                (minus_under s.a s.x r.i r.k r.A r.X (omega arith) (omega (arith, r.kj, r.high))),
            round_flip binary32 false (12816652 * (r.k - r.i)) (2 ^ 25 * N),
          )
          (go_back (neg (y (r.k - r.i))) (num (y (r.k - r.i))) (den (y (r.k - r.i))) ((r.k - r.i) / 2)
          (den_pos (y (r.k - r.i))) (positive_num (den (y (r.k - r.i))) (num (y (r.k - r.i))) 1
          (den_pos (y (r.k - r.i))) (omega arith) w.least) (neg_value (y (r.k - r.i)) false _ _ w.value)
          w.most (omega arith) h)
      go false f g =
          let u = g refl in
          let h : r.k + 233000 ≤ r.j = spare.left (omega arith) in
          let w : In 1 ((r.j - r.k) / 2) (y (r.j - r.k)) = y_in (r.j - r.k) (omega arith)
          (omega (arith, r.high)) in
          rw (
            le_no mid s.x place.k r.k place.at r.X (g refl),
            mul_at cg (s.b -ᶠ s.x) false false 12816652 (2 ^ 25) (r.j - r.k) N (omega arith) (omega arith) cg_is
                (minus_over s.b s.x r.j r.k r.B r.X r.kj (omega (arith, r.high))),
          )
          (go_ahead (y (r.j - r.k)) (num (y (r.j - r.k))) (den (y (r.j - r.k))) ((r.j - r.k) / 2)
          (den_pos (y (r.j - r.k))) w.value w.most (omega arith) h)

  -- ---- the least step, towards the middle
  inward_roomy : Roomy r.i r.k r.j s.x (inward s)
  unfolding inward
  inward_roomy = go (leb r.k place.k) (leb-true r.k place.k) (leb-false r.k place.k)
    where
      t : Float
      t = tol1 s.x

      go : (b : Bool) → (b ≡ true → r.k ≤ place.k) → (b ≡ false → place.k < r.k)
          → Roomy r.i r.k r.j s.x (cond (le 0ᶠ (mid -ᶠ s.x)) (tol1 s.x) (neg (tol1 s.x)))
      go true f g =
          let h : r.k + 233000 ≤ r.j = spare.left (f refl) in
          rw (sign_yes (mid -ᶠ s.x) (place.k - r.k) N (omega arith)
          (minus_over mid s.x place.k r.k place.at r.X (f refl)
          (omega (arith, place.most, r.ik, r.kj, r.high))))
          (go_ahead t (num t) (den t) 160000 (den_pos t) least_in.value least_in.most (omega arith) h)
      go false f g =
          let u = g refl in
          let h : r.i + 233000 ≤ r.k = spare.right (omega arith) in
          rw (sign_no (mid -ᶠ s.x) (r.k - place.k) N (omega arith) (omega arith)
          (minus_under mid s.x place.k r.k place.at r.X u (omega (arith, r.kj, r.high))))
          (go_back (neg t) (num t) (den t) 160000 (den_pos t)
          (positive_num (den t) (num t) 117000 (den_pos t) (omega arith) least_in.least)
          (neg_value t false (num t) (den t) least_in.value) least_in.most (omega arith) h)

  -- ---- a parabola's lowest point that is not near an end
  from-a : (u : Float) (l : ℕ) → At u l → r.i ≤ l → l ≤ r.j → lt (u -ᶠ s.a) (tol2 s.x) ≡ false → 234000 ≤ l - r.i
  from-a u l p h g e =
      far_enough (u -ᶠ s.a) (tol2 s.x) (l - r.i)
      (minus_over u s.a l r.i p r.A h (omega (arith, r.high))) twice_in e

  from-b : (u : Float) (l : ℕ) → At u l → l ≤ r.j → lt (s.b -ᶠ u) (tol2 s.x) ≡ false → 234000 ≤ r.j - l
  from-b u l p h e =
      far_enough (s.b -ᶠ u) (tol2 s.x) (r.j - l)
      (minus_over s.b u r.j l r.B p h (omega (arith, r.high))) twice_in e

  clear_roomy : (rat : Float) → Fit r.i r.k r.j rat → lt (s.x +ᶠ rat -ᶠ s.a) (tol2 s.x) ≡ false
      → lt (s.b -ᶠ (s.x +ᶠ rat)) (tol2 s.x) ≡ false → Roomy r.i r.k r.j s.x rat
  clear_roomy rat (forth w) e f =
      let m : Place (r.k + 0) (r.k + (r.j - r.k)) (s.x +ᶠ rat) =
      placed (r.k + 0) (r.k + (r.j - r.k)) (s.x +ᶠ rat) (add-fits binary32 s.x rat)
      (omega (arith, r.low, r.ik)) (omega (arith, r.kj, r.high))
      (step_up s.x rat r.k (num rat) (den rat) 0 (r.j - r.k) (den_pos rat) r.X w.value w.least
      w.most (omega (arith, r.kj, r.high))) in
      let z = from-b (s.x +ᶠ rat) m.k m.at (omega (arith, m.most, r.kj)) f in
      ahead (num rat) (den rat) m.k (den_pos rat) w.value w.most
      (widen m.k m.k r.k m.k (s.x +ᶠ rat) (omega (arith, m.least)) (omega arith)
      (at_in m.k (s.x +ᶠ rat) m.at)) (omega (arith, z)) (omega (arith, z, m.least))
  clear_roomy rat (hither q is w) e f =
      subst (λ (z : Float). Roomy r.i r.k r.j s.x z) (sym is) (go (num q) refl)
    where
      start : lt (s.x +ᶠ neg q -ᶠ s.a) (tol2 s.x) ≡ false
      start = ap (λ (z : Float). lt (s.x +ᶠ z -ᶠ s.a) (tol2 s.x)) (sym is) ∙ e

      end : lt (s.b -ᶠ (s.x +ᶠ neg q)) (tol2 s.x) ≡ false
      end = ap (λ (z : Float). lt (s.b -ᶠ (s.x +ᶠ z)) (tol2 s.x)) (sym is) ∙ f

      value : HasValue (neg q) true (num q) (den q)
      value = neg_value q false (num q) (den q) w.value

      nothing : 0 * den q ≤ 0 * N
      nothing = le_of_eq (zero-mul (den q) ∙ sym (zero-mul N))

      go : (n : ℕ) → num q ≡ n → Roomy r.i r.k r.j s.x (neg q)
      go zero p =
          let v : HasValue (neg q) true 0 (den q) = subst (λ (z : ℕ). HasValue (neg q) true z (den q)) p value in
          let m : Place (r.k - 0) (r.k - 0) (s.x +ᶠ neg q) =
          placed (r.k - 0) (r.k - 0) (s.x +ᶠ neg q) (add-fits binary32 s.x (neg q))
          (omega (arith, r.low, r.ik)) (omega (arith, r.kj, r.high))
          (step_down s.x (neg q) r.k 0 (den q) 0 0 (den_pos q) r.X v nothing
          (le_of_eq (zero-mul N ∙ sym (zero-mul (den q)))) (omega arith) (omega arith)
          (omega (arith, r.kj, r.high))) in
          let z = from-b (s.x +ᶠ neg q) m.k m.at (omega (arith, m.most, r.kj)) end in
          none (den q) (den_pos q) v (omega (arith, z, m.least))
      go (suc n) p =
          let m : Place (r.k - (r.k - r.i)) (r.k - 0) (s.x +ᶠ neg q) =
          placed (r.k - (r.k - r.i)) (r.k - 0) (s.x +ᶠ neg q) (add-fits binary32 s.x (neg q))
          (omega (arith, r.low, r.ik)) (omega (arith, r.kj, r.high))
          (step_down s.x (neg q) r.k (num q) (den q) 0 (r.k - r.i) (den_pos q) r.X value w.least
          w.most (omega arith) (omega arith) (omega (arith, r.kj, r.high))) in
          let z = from-a (s.x +ᶠ neg q) m.k m.at (omega (arith, m.least, r.ik))
          (omega (arith, m.most, r.kj)) start in
          back (num q) (den q) m.k (den_pos q) (omega arith) value w.most
          (widen m.k m.k m.k r.k (s.x +ᶠ neg q) (omega arith) (omega (arith, m.most))
          (at_in m.k (s.x +ᶠ neg q) m.at)) (omega (arith, z)) (omega (arith, z, m.most))

  fitted_roomy : (f : Parabola) → Fit r.i r.k r.j (f.p /ᶠ f.q)
      → Roomy r.i r.k r.j s.x (fitted s f)
  unfolding fitted near_end
  fitted_roomy f w = go (near_end s (s.x +ᶠ f.p /ᶠ f.q)) refl
    where
      go : (b : Bool) → near_end s (s.x +ᶠ f.p /ᶠ f.q) ≡ b
          → Roomy r.i r.k r.j s.x (cond b (inward s) (f.p /ᶠ f.q))
      go true e = inward_roomy
      go false e =
          clear_roomy (f.p /ᶠ f.q) w
          (or-first (lt (s.x +ᶠ f.p /ᶠ f.q -ᶠ s.a) (tol2 s.x))
          (lt (s.b -ᶠ (s.x +ᶠ f.p /ᶠ f.q)) (tol2 s.x)) e)
          (or-second (lt (s.x +ᶠ f.p /ᶠ f.q -ᶠ s.a) (tol2 s.x))
          (lt (s.b -ᶠ (s.x +ᶠ f.p /ᶠ f.q)) (tol2 s.x)) e)

  -- ---- the parabola
  fit_of : (z p : Float) → T (fits binary32 p) → useful s (record { p = p; q = Float32.abs z }) ≡ true
      → Fit r.i r.k r.j (p /ᶠ Float32.abs z)
  unfolding useful
  fit_of z p t h =
      fit_moves s.a s.b s.x p z r.i r.k r.j r.A r.B r.X r.ik r.kj
      (omega (arith, r.high)) t
      (and_first (lt (Float32.abs z *ᶠ (s.a -ᶠ s.x)) p) _ h)
      (and_first (lt p (Float32.abs z *ᶠ (s.b -ᶠ s.x))) _
      (and_second (lt (Float32.abs z *ᶠ (s.a -ᶠ s.x)) p) _ h))

  parabola-fit : useful s (parabola s) ≡ true → Fit r.i r.k r.j ((parabola s).p /ᶠ (parabola s).q)
  unfolding parabola
  parabola-fit h =
      fit_of _ _ (cond-fits binary32 (lt 0ᶠ (two *ᶠ
      ((s.x -ᶠ s.v) *ᶠ (s.fx -ᶠ s.fw) -ᶠ (s.x -ᶠ s.w) *ᶠ (s.fx -ᶠ s.fv)))) _ _
      (neg-fits binary32 _ (mul_add_fits _ _ _)) (mul_add_fits _ _ _)) h

  moved_roomy : Roomy r.i r.k r.j s.x (moved s).rat
  unfolding moved parabolic golden
  moved_roomy = go (le (Float32.abs s.deltax) (tol1 s.x)) (useful s (parabola s)) refl
    where
      go : (b c : Bool) → useful s (parabola s) ≡ c
          → Roomy r.i r.k r.j s.x (cond b (golden s)
          (cond c (record { deltax = s.rat; rat = fitted s (parabola s) }) (golden s))).rat
      go true c e = golden_roomy
      go false true e = fitted_roomy (parabola s) (parabola-fit e)
      go false false e = golden_roomy

  -- ---- the trial
  pub trial_strides : Strides r.i r.k r.j (trial s).u
  unfolding trial trial_of
  trial_strides = stepped_strides s.x r.i r.k r.j r.X r.ik r.kj (omega (arith, r.high)) least_in
      (moved s).rat moved_roomy

  between : (u : Float) → Strides r.i r.k r.j u → In r.i r.j u
  between u (right hi w l) = widen (r.k + 117000) hi r.i r.j u (omega (arith, r.ik)) (omega arith) w
  between u (left lo w l m) = widen lo (r.k - 117000) r.i r.j u (omega arith) (omega (arith, r.kj)) w

  pub trial-place : Place r.i r.j (trial s).u
  unfolding trial trial_of stepped
  trial-place = placed r.i r.j (trial s).u (add-fits binary32 s.x _) (omega (arith, r.low))
      (omega (arith, r.high)) (between (trial s).u trial_strides)
