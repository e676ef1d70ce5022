-- Reading the canonical text of settings gives the settings back.
--   canonical_back   the settings come back, with every form seen, whatever stood in their place before
use Rattle.settings_text.specs.Quoted.{bytes}
use mathlib.Core.Path.{◌≡◌, refl, sym, ap, ◌∙◌}
use Prim.Native.Nat.{ℕ, ◌≤◌}
use native.Mathlib.Omega.{arith}
use native.Mathlib.Nat.{le_trans}
use mathlib.Core.Bool.{true}
use mathlib.Core.List.{List, [], ◌∷◌}
use lib.ListN.{length, get_or, replicate}
use borrow.Author.Tests.{le-ltb}
use Rattle.settings_text.specs.declared.Settings.{Settings}
use Rattle.settings_text.specs.Forms.{read_as, reading}
use Rattle.settings_text.specs.With.{with_seen}
use Rattle.report.specs.Digits.{decimal, hex}
use Rattle.report.specs.Canonical.{text_of, hexes, forms_of, canonical, Expressible}
use Rattle.report.proofs.WriteLaws.{decimal-short, hex-length}
use Rattle.report.proofs.TextLaws.{AllLines, decimal-word, hex-word, form-no_feed, text_lines}
use Rattle.report.proofs.FormLaws.{hexes-words, one_word, word_parameters, word-deck, word-span, word_seed}
use Rattle.report.proofs.FormLaws.{word_learn, word-review, word-retention, word_maxcost, word_first, word_cost}
use Rattle.report.proofs.FormLaws.{form-length, word-length, end-length, one-length, many-length, Short}
use Rattle.report.proofs.FormLaws.{text_length}
use Rattle.report.proofs.ReadLaws.{after_0, after_10, cost_words, forms_read}

module _ (s base : Settings) (ok : Expressible s) where
  no_feeds : AllLines (forms_of s)
  unfolding forms_of AllLines
  no_feeds = (
    form-no_feed (bytes "parameters") (hexes s.parameters) word_parameters (hexes-words s.parameters),
    (
      form-no_feed (bytes "deck") (decimal s.deck ∷ []) word-deck
          (one_word (decimal s.deck) (decimal-word s.deck)),
      (
        form-no_feed (bytes "span") (decimal s.span ∷ []) word-span
            (one_word (decimal s.span) (decimal-word s.span)),
        (
          form-no_feed (bytes "seed") (decimal s.seed ∷ []) word_seed
              (one_word (decimal s.seed) (decimal-word s.seed)),
          (
            form-no_feed (bytes "learn") (decimal s.learn ∷ []) word_learn
                (one_word (decimal s.learn) (decimal-word s.learn)),
            (
              form-no_feed (bytes "review") (decimal s.review ∷ []) word-review
                  (one_word (decimal s.review) (decimal-word s.review)),
              (
                form-no_feed (bytes "retention") (hex s.retention ∷ []) word-retention
                    (one_word (hex s.retention) (hex-word s.retention)),
                (
                  form-no_feed (bytes "maxcost") (hex s.maxcost ∷ []) word_maxcost
                      (one_word (hex s.maxcost) (hex-word s.maxcost)),
                  (
                    form-no_feed (bytes "first") (hexes s.first) word_first (hexes-words s.first),
                    (
                      form-no_feed (bytes "cost") ((bytes "all") ∷ hex (get_or s.cost 0 0) ∷ []) word_cost
                          (cost_words s base ok),
                      tt,
                    ),
                  ),
                ),
              ),
            ),
          ),
        ),
      ),
    ),
  )

  shorts : Short (forms_of s)
  unfolding forms_of Short
  shorts = (
    many-length (bytes "parameters") s.parameters (omega (arith, ok.many)) (omega arith),
    (
      le_trans (one-length (bytes "deck") (decimal s.deck) (decimal-short s.deck) (omega arith)) (omega arith),
      (
        le_trans (one-length (bytes "span") (decimal s.span) (decimal-short s.span) (omega arith)) (omega arith),
        (
          le_trans (one-length (bytes "seed") (decimal s.seed) (decimal-short s.seed) (omega arith))
              (omega arith),
          (
            le_trans (one-length (bytes "learn") (decimal s.learn) (decimal-short s.learn) (omega arith))
                (omega arith),
            (
              le_trans (one-length (bytes "review") (decimal s.review) (decimal-short s.review) (omega arith))
                  (omega arith),
              (
                le_trans (one-length (bytes "retention") (hex s.retention) (omega (arith, hex-length s.retention))
                    (omega arith)) (omega arith),
                (
                  le_trans (one-length (bytes "maxcost") (hex s.maxcost) (omega (arith, hex-length s.maxcost))
                      (omega arith)) (omega arith),
                  (
                    many-length (bytes "first") s.first (omega (arith, ok.four)) (omega arith),
                    (
                      omega (
                        arith,
                        form-length (bytes "cost") ((bytes "all") ∷ hex (get_or s.cost 0 0) ∷ []),
                        word-length
                            (bytes "all") (hex (get_or s.cost 0 0) ∷ []),
                        word-length (hex (get_or s.cost 0 0)) [],
                        hex-length
                            (get_or s.cost 0 0),
                        end-length,
                      ),
                      tt,
                    ),
                  ),
                ),
              ),
            ),
          ),
        ),
      ),
    ),
  )

  ten : length (forms_of s) ≡ 10
  unfolding forms_of
  ten = refl

  short : length (canonical s) ≤ 32768
  unfolding canonical
  short = omega (arith, text_length (forms_of s) shorts, ten)

  ended : after_10 s base ok ≡ with_seen (replicate 10 true) s
  unfolding after_10
  ended = ap (λ (c : List ℕ). record {
    deck = s.deck;
    span = s.span;
    seed = s.seed;
    learn = s.learn;
    review = s.review;
    retention = s.retention;
    maxcost = s.maxcost;
    first = s.first;
    cost = c;
    parameters = s.parameters;
    seen = replicate 10 true;
  }) (sym ok.same)

  -- the settings come back, with every form seen, whatever stood in their place before
  pub canonical_back : reading (canonical s) base ≡ read_as (with_seen (replicate 10 true) s)
  unfolding reading canonical read_as after_0
  canonical_back = rw (le-ltb 32768 (length (text_of (forms_of s))) short, text_lines (forms_of s) no_feeds)
      (forms_read s base ok ∙ ap read_as ended)
