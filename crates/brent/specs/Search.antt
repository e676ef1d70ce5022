-- THE WHOLE SEARCH, over anything that gives a retention its mean or refuses it (docs/RULES.md, O5). Definitions only.
--   Sampled W R, Tried, Answer R, Searched W R   what a trial gives, a trial in the list, the answer, the search
--   tried u x rest            a trial, and the rest after it
--   settled s                 the answer of a state that has converged
--   search_on run n world s    from a state with n rounds left
--   search run rounds world   the search
--   Each, Some, NotBelow, ..  for the laws
use Rattle.std.specs.Prelude.{◌≡◌, ◌⊎◌, ℕ, zero, suc, ◌+◌, ◌<◌, false, cond, List, [], ◌∷◌, T, Float}
use Rattle.std.specs.Float.Ieee.{lt}
use Rattle.brent.specs.declared.Brent.{Brent}
use Rattle.brent.specs.Step.{r_min, converged, trial, begun, step_of, within}

-- A trial's runs give a mean, or are refused. W is what the runs work in and leave, R is why they are refused.
pub data Sampled (W R : Type 0) : Type 0 where
  gives : W → Float → Sampled W R
  refuses : W → R → Sampled W R

pub record Tried : Type 0 where
  pub retention : Float
  pub mean : Float

-- found: the retention, its mean, the rounds done. not_found: refusal 10, with the rounds done. refused: what the first
-- refused trial says.
pub data Answer (R : Type 0) : Type 0 where
  found : Float → Float → ℕ → Answer R
  not_found : ℕ → Answer R
  refused : R → Answer R

pub record Searched (W R : Type 0) : Type 0 where
  pub trials : List Tried
  pub left : W
  pub answer : Answer R

unfoldable pub ended : {W R : Type 0} → W → Answer R → Searched W R
ended world answer = record { trials = []; left = world; answer = answer }

unfoldable pub noted : {W R : Type 0} → Float → Float → Searched W R → Searched W R
noted u mean rest =
    record { trials = record { retention = u; mean = mean } ∷ rest.trials; left = rest.left; answer = rest.answer }

-- a trial at u, and the rest of the search after it
unfoldable pub tried : {W R : Type 0} → Float → Sampled W R → (W → Float → Searched W R) → Searched W R
tried u (gives world mean) rest = noted u mean (rest world mean)
tried u (refuses world why) rest = ended world (refused why)

-- at a state that has converged
unfoldable pub settled : {R : Type 0} → Brent → Answer R
settled s = cond (within s.x) (found s.x s.fx s.done) (not_found s.done)

-- from a state with so many rounds left
unfoldable pub search_on : {W R : Type 0} → (W → Float → Sampled W R) → ℕ → W → Brent → Searched W R
search_on run zero world s = ended world (not_found s.done)
search_on run (suc n) world s =
    let u = (trial s).u in
    let next = tried u (run world u) (λ after mean. search_on run n after (step_of s mean)) in
    cond (converged s) (ended world (settled s)) next

unfoldable pub search : {W R : Type 0} → (W → Float → Sampled W R) → ℕ → W → Searched W R
search run rounds world = tried r_min (run world r_min) (λ after mean. search_on run rounds after (begun mean))

-- ---- for the laws

abbrev pub Each : (Tried → Type 0) → List Tried → Type 0
Each P [] = Unit {0}
Each P (t ∷ ts) = P t × Each P ts

abbrev pub Some : (Tried → Type 0) → List Tried → Type 0
Some P [] = ⊥
Some P (t ∷ ts) = P t ⊎ Some P ts

-- the mean is not below the mean of the retention found
abbrev pub NotBelow : {R : Type 0} → Answer R → Float → Type 0
NotBelow (found x mean done) m = lt m mean ≡ false
NotBelow (not_found done) m = Unit {0}
NotBelow (refused why) m = Unit {0}

-- the retention found was tried, with its mean
abbrev pub WasTried : {R : Type 0} → Answer R → List Tried → Type 0
WasTried (found x mean done) ts = Some (λ t. (t.retention ≡ x) × (t.mean ≡ mean)) ts
WasTried (not_found done) ts = Unit {0}
WasTried (refused why) ts = Unit {0}

-- a retention found lies within 0.70 to 0.95
abbrev pub FoundWithin : {R : Type 0} → Answer R → Type 0
FoundWithin (found x mean done) = T (within x)
FoundWithin (not_found done) = Unit {0}
FoundWithin (refused why) = Unit {0}

-- one trial more than the rounds done
abbrev pub OneMore : {R : Type 0} → Answer R → ℕ → Type 0
OneMore (found x mean done) n = n ≡ done + 1
OneMore (not_found done) n = n ≡ done + 1
OneMore (refused why) n = Unit {0}

-- refusal 10 comes only of rounds used up
abbrev pub OnlySpent : {R : Type 0} → Answer R → ℕ → Type 0
OnlySpent (found x mean done) rounds = done < rounds
OnlySpent (not_found done) rounds = done ≡ rounds
OnlySpent (refused why) rounds = Unit {0}

-- no refusal 10
abbrev pub NeverTen : {R : Type 0} → Answer R → Type 0
NeverTen (found x mean done) = Unit {0}
NeverTen (not_found done) = ⊥
NeverTen (refused why) = Unit {0}

-- a trial keeps P of what it works in, and is refused only as Q says
abbrev pub Lawful : {W R : Type 0} → (W → Type 0) → (R → Type 0) → Sampled W R → Type 0
Lawful P Q (gives w mean) = P w
Lawful P Q (refuses w why) = P w × Q why

-- a refusal is as Q says
abbrev pub RefusedBy : {R : Type 0} → (R → Type 0) → Answer R → Type 0
RefusedBy Q (found x mean done) = Unit {0}
RefusedBy Q (not_found done) = Unit {0}
RefusedBy Q (refused why) = Q why
