-- A text read line by line, against `read_lines`.
--   lines-few               a text has at most one line more than bytes
--   lines-yield             what `split` gives at line feeds are the text's lines, each with its place
--   line_at                 a line that was given, and its place
--   read_wrong, read-on     a line that is wrong, and one that is not
--   read-end                past the last line
use Rattle.std.proofs.Common.{◌≡◌, ℕ, suc, ◌+◌, ◌≤◌, ◌<◌, Bool, false, List, [], ◌∷◌, length, drop, get_or, sym, refl, ap, ◌∙◌}
use Rattle.std.proofs.Common.{arith, Bor, add-one, drop-cons, drop_of_length-le}
use Rattle.std.specs.Prelude.{Some, None, nat_eq}
use Rattle.std.specs.Fn.{CalledAt}
use Rattle.std.specs.Slice.Iter.{split_rest, split_done, split_callee, split_steps}
use Rattle.std.proofs.lemmas.Iterator.{YieldsList}
use Rattle.std.specs.Iterator.Adapters.{enumerate_source, enumerate_count, enumerate_steps}
use Rattle.std.specs.List.{enumerate_from}
use Rattle.std.proofs.lemmas.Iterator.Consumers.{YieldsList-at, YieldsList-from_enumerate}
use Rattle.std.proofs.lemmas.List.FromFn.{length-enumerate_from, get_or-enumerate_from}
use Rattle.std.proofs.lemmas.Iterator.Splits.{YieldsList-from_slice_split}
use Rattle.std.proofs.lemmas.List.Splits.{length-slice_split}
use Rattle.std.proofs.lemmas.List.Sums.{count_by-le-length}
use denote.Param.Members.{Mut}
use Rattle.settings_text.specs.declared.Settings.{Settings}
use Rattle.settings_text.specs.declared.ReadError.TheVariants.{Line}
use Rattle.settings_text.specs.Text.{lines, parts}
use Rattle.settings_text.specs.Forms.{line, read_lines, read_as, refused_as}
use Rattle.settings_text.proofs.PartLaws.{lines-cut}

pub lines-few : (s : List ℕ) → length (lines s) ≤ length s + 1
lines-few s =
    rw (lines-cut s, length-slice_split (λ b. nat_eq b 10) s) (omega (arith, count_by-le-length (λ b. nat_eq b 10) s))

pub lines-yield : {F : Type 0} {s e : _} (g : Mut F (Bor ℕ × Unit {0}) Bool) {f : F} (text : List ℕ)
    → enumerate_source e ≡ s → enumerate_count e ≡ 0 → split_rest s ≡ text → split_done s ≡ false → split_callee s ≡ f
    → ((x : ℕ) (b : Bool) (q : F) → CalledAt g f x b q → (q ≡ f) × (b ≡ nat_eq x 10))
    → YieldsList {B = ℕ × List ℕ} (enumerate_steps (split_steps g)) (λ p. (p.0, p.1.now)) e
    (enumerate_from 0 (lines text))
lines-yield {s = s} g text u n r d k h =
    let cut : YieldsList (split_steps g) (λ x. x.now) s (lines text) =
    rw (lines-cut text) (YieldsList-from_slice_split g (λ b. nat_eq b 10) text r d k h) in
    YieldsList-from_enumerate (YieldsList-at u cut) n

pub line_at : (ls : List (List ℕ)) (n i : ℕ) (x : List ℕ) → n < length (enumerate_from 0 ls)
    → ◌≡◌ {A = ℕ × List ℕ} (i, x) (get_or (enumerate_from 0 ls) n (i, x))
    → (i ≡ n) × ((n < length ls) × (x ≡ get_or ls n x))
line_at ls n i x h e =
    let l : n < length ls = omega (arith, h, length-enumerate_from 0 ls) in
    let q = e ∙ get_or-enumerate_from 0 ls n (i, x) l in
    let o : 0 + n ≡ n = omega arith in
    (ap (λ (p : ℕ × List ℕ). p.0) q ∙ o, (l, ap (λ (p : ℕ × List ℕ). p.1) q))

first_wrong : (n : ℕ) (x : List ℕ) (ls : List (List ℕ)) (st : Settings) → line (parts x) st ≡ None
    → read_lines n (x ∷ ls) st ≡ refused_as (Line n) st
unfolding read_lines
first_wrong n x ls st f = rw (f, read_lines)

pub first-read : (n : ℕ) (x : List ℕ) (ls : List (List ℕ)) (st next : Settings) → line (parts x) st ≡ Some next
    → read_lines n (x ∷ ls) st ≡ read_lines (suc n) ls next
unfolding read_lines
first-read n x ls st next f = rw (f, read_lines)

module _ (all : List (List ℕ)) (n : ℕ) (st : Settings) (x : List ℕ) (h : n < length all) (e : x ≡ get_or all n x) where
  next_line : drop n all ≡ x ∷ drop (n + 1) all
  next_line = rw (drop-cons all n x h, sym e, add-one n)

  pub read_wrong : line (parts x) st ≡ None → read_lines (n + 1) (drop n all) st ≡ refused_as (Line (n + 1)) st
  read_wrong f = rw next_line (first_wrong (n + 1) x (drop (n + 1) all) st f)

  pub read-on : (next : Settings) → line (parts x) st ≡ Some next → read_lines (n + 1) (drop n all) st
      ≡ read_lines (n + 1 + 1) (drop (n + 1) all) next
  read-on next f = rw (next_line, add-one (n + 1)) (first-read (n + 1) x (drop (n + 1) all) st next f)

none_left : (n : ℕ) (st : Settings) → read_lines n [] st ≡ read_as st
unfolding read_lines
none_left n st = refl

pub read-end : (all : List (List ℕ)) (n : ℕ) (st : Settings) → length all ≤ n → read_lines (n + 1) (drop n all) st
    ≡ read_as st
read-end all n st h = rw (drop_of_length-le all h) (none_left (n + 1) st)
