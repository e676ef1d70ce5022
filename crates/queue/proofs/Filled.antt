-- The queue after cards 0, 1, .. have joined in order.
--   Filled                            each has its key; the places beyond are as in rows₀
--   fill_none, fill_same, fill_next   none has joined; keys that agree on the cards will do; one more joins
use mathlib.Core.Path.{◌≡◌, refl, sym, ◌∙◌}
use mathlib.Core.List.{List, []}
use mathlib.Core.Bool.{false, ◌||◌}
use Prim.Native.Nat.{ℕ, suc, ◌-◌, ◌^◌, ◌≤◌, ◌<◌}
use native.Mathlib.Nat.{le_refl}
use native.Mathlib.Decide.{ℕ_discrete, dec_lt}
use native.Mathlib.Omega.{arith}
use borrow.Author.Tests.{eq-eqb, ne_eqb, lt-ltb, le-ltb}
use lib.Dec.{eqb, ltb}
use lib.ListN.{get_or, length}
use Rattle.queue.specs.Queue.{Queue, queue, pushed}
use Rattle.queue.specs.Sound.{queued, Keyed}
use Rattle.queue.proofs.Push.{push_law, push-queued}
use Rattle.queue.proofs.Keyed.{keyed_same, enqueue}

pub record Filled (k : ℕ → ℕ) (rows₀ : List (List ℕ)) (n : ℕ) (q : Queue) : Type 0 where
  pub keyed : Keyed n k q
  pub count : q.len ≡ n
  pub all : (c : ℕ) → queued q c ≡ ltb c n
  pub long : length q.rows ≡ length rows₀
  pub beyond : (i : ℕ) → n ≤ i → get_or q.rows i [] ≡ get_or rows₀ i []

pub fill_none : (k : ℕ → ℕ) (rows₀ : List (List ℕ)) → Filled k rows₀ 0 (queue rows₀ 0)
fill_none k rows₀ = record {
  keyed = record {
    sound = record {
      distinct = record { room = omega arith; once = λ i j l m e. absurd (omega arith) };
      order = λ i p l. absurd (omega arith);
    };
    named = λ i l. absurd (omega arith);
    key = λ i l. absurd (omega arith);
  };
  count = refl;
  all = λ c. sym (le-ltb c 0 (omega arith));
  long = refl;
  beyond = λ i l. refl;
}

pub fill_same : (k k' : ℕ → ℕ) (rows₀ : List (List ℕ)) (n : ℕ) (q : Queue) → ((c : ℕ) → c < n → k c ≡ k' c)
    → Filled k rows₀ n q → Filled k' rows₀ n q
fill_same k k' rows₀ n q same f = record {
  keyed = keyed_same n k k' q same f.keyed;
  count = f.count;
  all = f.all;
  long = f.long;
  beyond = f.beyond;
}

pub fill_next : (k : ℕ → ℕ) (rows₀ : List (List ℕ)) (n : ℕ) (q : Queue) → n < length rows₀ → n < 2 ^ 32 - 1
    → Filled k rows₀ n q → Filled k rows₀ (suc n) (pushed q n (k n))
fill_next k rows₀ n q space few f =
    let space' : q.len < length q.rows = omega (arith, f.count, f.long) in
    let few' : q.len < 2 ^ 32 - 1 = omega (arith, f.count) in
    let new : queued q n ≡ false = f.all n ∙ le-ltb n n (le_refl n) in
    let p = push_law q n (k n) (omega arith) space' few' f.keyed.sound.distinct new in
    record {
      keyed = enqueue n k q f.keyed n (suc n) (omega arith) (omega arith) (omega arith) space' few' new;
      count = p.more ∙ omega (arith, f.count);
      all = λ c. push-queued q n (k n) (omega arith) space' few' f.keyed.sound.distinct new c
          ∙ rw (f.all c) (one_more c (dec_lt c n) (ℕ_discrete n c));
      long = p.long ∙ f.long;
      beyond = λ i l. p.beyond i (omega (arith, f.count)) ∙ f.beyond i (omega arith);
    }
  where
    one_more : (c : ℕ) → Dec (c < n) → Dec (n ≡ c) → (eqb n c || ltb c n) ≡ ltb c (suc n)
    one_more c (yes l) (yes e) = absurd (omega arith)
    one_more c (yes l) (no e) = rw (ne_eqb n c e, lt-ltb c n l, lt-ltb c (suc n) (omega arith))
    one_more c (no l) (yes e) = rw (eq-eqb n c e, lt-ltb c (suc n) (omega arith))
    one_more c (no l) (no e) = rw (ne_eqb n c e, le-ltb c n (omega arith), le-ltb c (suc n) (omega arith))
