-- The interval table as lists: where a key is looked for, what a lookup finds, what entering leaves, and the map that
-- the table is.
-- A key is the bit patterns of two buckets: s of the logarithm of the stability, r of the desired retention.
--     Table, table keys intervals         the table of two lists; places t: how many places both lists have
--     is_free v        whether an interval marks a free place; free_at t p, key_at t p s r, value_at t p: what stands at a
--     place
--     home_of n s r    where the search for a key starts; next_of n p: the place after p, round the end
--     probe t s r m p, lookup_in t s r     what a search of m places from p finds, and the whole search
--     enter_in t p s r v                   the table with a key and its interval at a place
--     clear_in t       the table with every place free
--     held_in t s r    what is held under a key: it knows nothing of a hash
--     count_in t       how many places are used, which is how many keys a sound table holds
--     found_interval f      what a lookup answers
use Rattle.std.specs.Prelude.{Bool, true, false, cond, ◌&&◌, List, [], ◌∷◌, ◌≡◌, ℕ, zero, suc, ◌+◌, ◌*◌, ◌/◌, ◌%◌, ◌<◌, min, eqb, Float, length, get_or, set, replicate}
use Rattle.std.proofs.Math.Option.{Option, none, some}
use Rattle.std.specs.Float.{nan}
use Rattle.std.specs.Float.Ieee.{lt}
use Rattle.float32.specs.Numbers.{0ᶠ, 1ᶠ}
use Rattle.intervals.specs.declared.Entry.{Entry}
use Rattle.intervals.specs.declared.Entry.TheVariants.{Found, Free, Full}

-- the two lists: rows of a key's two buckets, and the intervals
pub record Table : Type 0 where
  pub keys : List (List ℕ)
  pub intervals : List Float

abbrev pub table : List (List ℕ) → List Float → Table
table keys intervals = record { keys = keys; intervals = intervals }

-- how long the table is: what the longer list has beyond the shorter is no part of it
abbrev pub places : Table → ℕ
places t = min (length t.keys) (length t.intervals)

-- an interval below 1 marks a free place
abbrev pub is_free : Float → Bool
is_free v = lt v 1ᶠ

unfoldable pub same_key : ℕ → ℕ → ℕ → ℕ → Bool
same_key a b s r = eqb a s && eqb b r

-- a key's hash, below 2 ^ 32; 2654435769 is 2 ^ 32 over the golden ratio
unfoldable pub mix_of : ℕ → ℕ → ℕ
mix_of s r = (s * 2654435769 + r * 1540483477) % 4294967296

-- where the search for a key starts, the hash's share of the table's first 2 ^ 32 places, and the place after p, round
-- the end
unfoldable pub home_of : ℕ → ℕ → ℕ → ℕ
home_of n s r = mix_of s r * min n 4294967296 / 4294967296

unfoldable pub next_of : ℕ → ℕ → ℕ
next_of n p = cond (eqb (p + 1) n) 0 (p + 1)

-- what stands at a place
abbrev pub free_at : Table → ℕ → Bool
free_at t p = is_free (get_or t.intervals p nan)

abbrev pub key_at : Table → ℕ → ℕ → ℕ → Bool
key_at t p s r = same_key (get_or (get_or t.keys p []) 0 0) (get_or (get_or t.keys p []) 1 0) s r

abbrev pub value_at : Table → ℕ → Float
value_at t p = get_or t.intervals p nan

-- the first of three at a free place, the second at the key's place, the third at another
abbrev pub pick : {A : Type 0} → Bool → Bool → A → A → A → A
pick true k x y z = x
pick false true x y z = y
pick false false x y z = z

-- the search from place p over the next so many places
unfoldable pub probe : Table → ℕ → ℕ → ℕ → ℕ → Entry
probe t s r zero p = Full
probe t s r (suc m) p =
    let q = probe t s r m (next_of (places t) p) in
    pick (free_at t p) (key_at t p s r) (Free p) (Found p (value_at t p)) q

unfoldable pub lookup_in : Table → ℕ → ℕ → Entry
lookup_in t s r = probe t s r (places t) (home_of (places t) s r)

abbrev pub enter_in : Table → ℕ → ℕ → ℕ → Float → Table
enter_in t p s r v = table (set t.keys p (s ∷ r ∷ [])) (set t.intervals p v)

-- every place free; the keys of free places mean nothing, and stay
abbrev pub clear_in : Table → Table
clear_in t = table t.keys (replicate (length t.intervals) 0ᶠ)

-- the interval held under a key in the first m places, and how many of them are used
unfoldable pub held_to : Table → ℕ → ℕ → ℕ → Option Float
held_to t s r zero = none
held_to t s r (suc m) = pick (free_at t m) (key_at t m s r) (held_to t s r m) (some (value_at t m)) (held_to t s r m)

unfoldable pub count_to : Table → ℕ → ℕ
count_to t zero = 0
count_to t (suc m) = cond (free_at t m) (count_to t m) (suc (count_to t m))

abbrev pub held_in : Table → ℕ → ℕ → Option Float
held_in t s r = held_to t s r (places t)

abbrev pub count_in : Table → ℕ
count_in t = count_to t (places t)

-- what a lookup answers: an interval or nothing
abbrev pub found_interval : Entry → Option Float
found_interval (Found p v) = some v
found_interval (Free p) = none
found_interval Full = none

-- ---- the table of a run
-- the key (s, r) stands at place p
pub record Stands (t : Table) (s r p : ℕ) : Type 0 where
  pub within : p < places t
  pub used : free_at t p ≡ false
  pub key : key_at t p s r ≡ true

-- a key that stands at a place is found there: so it is of an emptied table, and of every table that entries are made
-- in where lookups say
pub record Sound (t : Table) : Type 0 where
  pub found : (s r p : ℕ) → Stands t s r p → lookup_in t s r ≡ Found p (value_at t p)

-- WHAT A LOOKUP PROMISES: its entry, by the definition; and its answer, an interval or nothing, is what is held under
-- the key, whatever the table's length
pub record LookupContract (t : Table) (s r : ℕ) (f : Entry) : Type 0 where
  pub entry : f ≡ lookup_in t s r
  pub answer : Sound t → found_interval f ≡ held_in t s r
