-- The lines of all days, written one after the other.
--   placed_to, placed-full         what a line's place says of its room
--   rows_start, rows_start_bytes   the loop's start, of the place and of the bytes
--   rows_on, rows-full             one more line, and one that finds no room
--   rows_end, rows_end_bytes       the loop's end
--   written_sets                   a line that finds room is stored byte by byte
--   days_whole                     where there is room for all lines, they stand there one behind the other
--   days_short                     183 bytes a day are room enough
use mathlib.Core.Path.{◌≡◌, refl, sym, ap, ◌∙◌}
use Prim.Native.Nat.{ℕ, zero, suc, ◌+◌, ◌-◌, ◌*◌, ◌≤◌, ◌<◌}
use native.Mathlib.Omega.{arith}
use native.Mathlib.Numerals.{add-one}
use mathlib.Core.Bool.{Bool, true, false, cond}
use mathlib.Core.List.{List, ◌++◌}
use lib.ListN.{length, length-append}
use lib.Seq.{sets, sets-eq, length-sets}
use lib.Dec.{leb}
use lib.Ieee.{Float}
use borrow.Author.Tests.{le-leb}
use Rattle.report.specs.declared.Day.{Day}
use Rattle.std.specs.Prelude.{Option, Some, None}
use Rattle.report.specs.Lines.{day_line, placed, written}
use Rattle.report.specs.Rows.{day_at, day_lines, days_placed, days_written}
use Rattle.report.proofs.WriteLaws.{sets_append, day-short}

pub placed_to : (out line : List ℕ) (at n : ℕ) → placed out at line ≡ Some n
    → (leb (at + length line) (length out) ≡ true) × (at + length line ≡ n)
unfolding placed
placed_to out line at n = go (leb (at + length line) (length out)) refl
  where
    go : (b : Bool) → leb (at + length line) (length out) ≡ b → cond b (Some (at + length line)) None ≡ Some n
        → (leb (at + length line) (length out) ≡ true) × (at + length line ≡ n)
    go true e q = (e, cc)
    go false e q = absurd (let k : ◌≡◌ {A = ℕ} 0 1 = cc in omega arith)

pub placed-full : (out line : List ℕ) (at : ℕ) → placed out at line ≡ None → leb (at + length line) (length out) ≡ false
unfolding placed
placed-full out line at = go (leb (at + length line) (length out)) refl
  where
    go : (b : Bool) → leb (at + length line) (length out) ≡ b → cond b (Some (at + length line)) None ≡ None
        → leb (at + length line) (length out) ≡ false
    go true e q = absurd (let k : ◌≡◌ {A = ℕ} 0 1 = cc in omega arith)
    go false e q = e

written-full : (out line : List ℕ) (at : ℕ) → leb (at + length line) (length out) ≡ false → written out at line ≡ out
unfolding written
written-full out line at e = rw e

module _ (days : List (List ℕ)) (costs memorized : List Float) (d k at : ℕ) (out : List ℕ) where
  one_more : leb (at + length (day_line (day_at days costs memorized d))) (length out) ≡ true
      → days_placed days costs memorized d (suc k) out at ≡ days_placed days costs memorized (suc d) k
      (written out at (day_line (day_at days costs memorized d)))
      (at + length (day_line (day_at days costs memorized d)))
  unfolding days_placed
  one_more e = rw e

  one_more_bytes : leb (at + length (day_line (day_at days costs memorized d))) (length out) ≡ true
      → days_written days costs memorized d (suc k) out at ≡ days_written days costs memorized (suc d) k
      (written out at (day_line (day_at days costs memorized d)))
      (at + length (day_line (day_at days costs memorized d)))
  unfolding days_written
  one_more_bytes e = rw e

  no_more : leb (at + length (day_line (day_at days costs memorized d))) (length out) ≡ false
      → days_placed days costs memorized d (suc k) out at ≡ None
  unfolding days_placed
  no_more e = rw e

  no_more_bytes : leb (at + length (day_line (day_at days costs memorized d))) (length out) ≡ false
      → days_written days costs memorized d (suc k) out at ≡ out
  unfolding days_written
  no_more_bytes e = rw e

-- ---- the loop

module _ (days : List (List ℕ)) (costs memorized : List Float) (span at : ℕ) (out : List ℕ) where
  pub rows_start : days_placed days costs memorized 0 span out at ≡ days_placed days costs memorized 0 (span - 0) out at
  rows_start =
      let f : span - 0 ≡ span = omega arith in
      rw f

  pub rows_start_bytes : days_written days costs memorized 0 span out at
      ≡ days_written days costs memorized 0 (span - 0) out at
  rows_start_bytes =
      let f : span - 0 ≡ span = omega arith in
      rw f

module _ (days : List (List ℕ)) (costs memorized : List Float) (d span at : ℕ) (out out' : List ℕ) (row : Day)
    (r : Option ℕ)
    (row_is : row ≡ day_at days costs memorized d) (r-is : r ≡ placed out at (day_line row))
    (out-is : out' ≡ written out at (day_line row)) where
  pub rows_on : (n : ℕ) → d < span → r ≡ Some n
      → (days_placed days costs memorized d (span - d) out at ≡ days_placed days costs memorized (d + 1) (span - (d + 1))
      out' n)
      × (days_written days costs memorized d (span - d) out at ≡ days_written days costs memorized (d + 1)
      (span - (d + 1)) out' n)
  rows_on n h e =
      let line : List ℕ = day_line (day_at days costs memorized d) in
      let f : span - d ≡ suc (span - (d + 1)) = omega arith in
      let q : placed out at line ≡ Some n = rw row_is at (sym r-is ∙ e) in
      let t = placed_to out line at n q in
      let o : written out at line ≡ out' = sym (rw row_is at out-is) in (
        rw (f, one_more days costs memorized d (span - (d + 1)) at out t.0, o, t.1, add-one d),
        rw
            (f, one_more_bytes days costs memorized d (span - (d + 1)) at out t.0, o, t.1, add-one d),
      )

  pub rows-full : d < span → r ≡ None
      → (None ≡ days_placed days costs memorized d (span - d) out at)
      × (out' ≡ days_written days costs memorized d (span - d) out at)
  rows-full h e =
      let line : List ℕ = day_line (day_at days costs memorized d) in
      let f : span - d ≡ suc (span - (d + 1)) = omega arith in
      let t : leb (at + length line) (length out) ≡ false = placed-full out line at (rw row_is at (sym r-is ∙ e)) in
      let o : out' ≡ out = (rw row_is at out-is) ∙ written-full out line at t in (
        rw f (sym (no_more days costs memorized d (span - (d + 1)) at out t)),
        rw f
            (o ∙ sym (no_more_bytes days costs memorized d (span - (d + 1)) at out t)),
      )

module _ (days : List (List ℕ)) (costs memorized : List Float) (d span at : ℕ) (out : List ℕ) (h : d ≤ span)
    (l : span ≤ d) where
  pub rows_end : Some at ≡ days_placed days costs memorized d (span - d) out at
  unfolding days_placed
  rows_end =
      let f : span - d ≡ 0 = omega arith in
      rw f

  pub rows_end_bytes : out ≡ days_written days costs memorized d (span - d) out at
  unfolding days_written
  rows_end_bytes =
      let f : span - d ≡ 0 = omega arith in
      rw f

-- ---- what a caller may use: where there is room for all lines, they stand there one behind the other

pub written_sets : (out line : List ℕ) (at : ℕ) → at + length line ≤ length out → written out at line ≡ sets out at line
unfolding written
written_sets out line at h = rw (le-leb (at + length line) (length out) h) (sym (sets-eq line out at h))

days_sets : (days : List (List ℕ)) (costs memorized : List Float) (k d at : ℕ) (out : List ℕ)
    → at + length (day_lines days costs memorized d k) ≤ length out
    → (days_placed days costs memorized d k out at ≡ Some (at + length (day_lines days costs memorized d k)))
    × (days_written days costs memorized d k out at ≡ sets out at (day_lines days costs memorized d k))
unfolding day_lines days_placed days_written
days_sets days costs memorized zero d at out h =
    let e : at + 0 ≡ at = omega arith in
    (rw e, refl)
days_sets days costs memorized (suc k) d at out h =
    let line : List ℕ = day_line (day_at days costs memorized d) in
    let rest : List ℕ = day_lines days costs memorized (suc d) k in
    let a : length (line ++ rest) ≡ length line + length rest = length-append line rest in
    let f : at + length line ≤ length out = omega arith in
    let w : written out at line ≡ sets out at line = written_sets out line at f in
    let g : at + length line + length rest ≤ length (sets out at line) = rw (length-sets out at line) (omega arith) in
    let ih = days_sets days costs memorized k (suc d) (at + length line) (sets out at line) g in
    let e : at + length line + length rest ≡ at + length (line ++ rest) = omega arith in (
      rw (le-leb (at + length line) (length out) f, w) (ih.0 ∙ ap Some e),
      rw
          (le-leb (at + length line) (length out) f, w) (ih.1 ∙ sym (sets_append out at line rest)),
    )

pub days_whole : (days : List (List ℕ)) (costs memorized : List Float) (k d at : ℕ) (out : List ℕ)
    → at + length (day_lines days costs memorized d k) ≤ length out
    → (days_placed days costs memorized d k out at ≡ Some (at + length (day_lines days costs memorized d k)))
    × (days_written days costs memorized d k out at ≡ written out at (day_lines days costs memorized d k))
days_whole days costs memorized k d at out h =
    let p = days_sets days costs memorized k d at out h in
    (p.0, p.1 ∙ sym (written_sets out (day_lines days costs memorized d k) at h))

-- and 183 bytes a day are room enough
pub days_short : (days : List (List ℕ)) (costs memorized : List Float) (k d : ℕ)
    → length (day_lines days costs memorized d k) ≤ 183 * k
unfolding day_lines
days_short days costs memorized zero d = omega arith
days_short days costs memorized (suc k) d = omega (
  arith,
  length-append (day_line (day_at days costs memorized d))
      (day_lines days costs memorized (suc d) k),
  day-short (day_at days costs memorized d),
  days_short days costs
      memorized k (suc d),
)
