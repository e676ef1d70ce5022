-- A list whose first places are given. Definition only.
--   filled F n l   the list l with F 0, F 1, .. at its first n places; all of them where it has fewer
use Rattle.std.specs.Prelude.{ℕ, zero, suc, List, slice_set}

unfoldable pub filled : {A : Type 0} → (ℕ → A) → ℕ → List A → List A
filled F zero l = l
filled F (suc n) l = slice_set (filled F n l) n (F n)
