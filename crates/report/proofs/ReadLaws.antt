-- The ten forms of the canonical text, read one after the other.
--   after_0 to after_10   the settings before the first form is read, and once the k-th is
--   cost_words            what stands behind the name of the last is words
--   forms_read            the lines of the ten forms lead from the first settings to the last
use Rattle.settings_text.specs.Quoted.{bytes}
use mathlib.Core.Path.{◌≡◌, refl, sym, ◌∙◌}
use mathlib.Core.Bool.{true, false}
use mathlib.Core.List.{[], ◌∷◌, ◌++◌}
use lib.ListN.{get_or, set, replicate}
use Rattle.std.specs.Prelude.{Some}
use Rattle.settings_text.specs.declared.Name.TheVariants.{Parameters, Deck, Span, Seed, Learn, Review, Retention, Maxcost}
use Rattle.settings_text.specs.declared.Name.TheVariants.{First, Cost}
use Rattle.settings_text.specs.declared.Settings.{Settings}
use Rattle.settings_text.specs.Text.{parts}
use Rattle.settings_text.specs.Numbers.{number32, number64, bits}
use Rattle.settings_text.specs.Forms.{place_of, all_or, takes}
use Rattle.settings_text.specs.Forms.{line, read_as, read_lines}
use Rattle.settings_text.specs.With.{with_seen}
use Rattle.report.specs.Digits.{decimal, hex}
use Rattle.report.specs.Canonical.{form_text, hexes, forms_of, Expressible}
use Rattle.report.proofs.DigitLaws.{number32_back, number64_back, bits_back}
use Rattle.report.proofs.TextLaws.{AllWords, words_then, decimal-word, hex-word}
use Rattle.report.proofs.FormLaws.{hexes-words, one_word, one_back, several_back, all-hexes, all_back, form-good}
use Rattle.report.proofs.FormLaws.{line_back, next-line, last_line, word_parameters, name_parameters, word-deck}
use Rattle.report.proofs.FormLaws.{name_deck, word-span, name_span, word_seed, name_seed, word_learn, name_learn}
use Rattle.report.proofs.FormLaws.{word-review, name_review, word-retention, name_retention, word_maxcost}
use Rattle.report.proofs.FormLaws.{name_maxcost, word_first, name_first, word_cost, name_cost, word-all}

module _ (s base : Settings) (ok : Expressible s) where
  unfoldable pub after_0 : Settings
  after_0 = record {
    deck = base.deck;
    span = base.span;
    seed = base.seed;
    learn = base.learn;
    review = base.review;
    retention = base.retention;
    maxcost = base.maxcost;
    first = base.first;
    cost = base.cost;
    parameters = base.parameters;
    seen = false ∷ false ∷ false ∷ false ∷ false ∷ false ∷ false ∷ false ∷ false ∷
        false ∷ [];
  }

  after_1 : Settings
  after_1 = record {
    deck = base.deck;
    span = base.span;
    seed = base.seed;
    learn = base.learn;
    review = base.review;
    retention = base.retention;
    maxcost = base.maxcost;
    first = base.first;
    cost = base.cost;
    parameters = s.parameters;
    seen = true ∷ false ∷ false ∷ false ∷ false ∷ false ∷ false ∷ false ∷ false ∷ false ∷
        [];
  }

  after_2 : Settings
  after_2 = record {
    deck = s.deck;
    span = base.span;
    seed = base.seed;
    learn = base.learn;
    review = base.review;
    retention = base.retention;
    maxcost = base.maxcost;
    first = base.first;
    cost = base.cost;
    parameters = s.parameters;
    seen = true ∷ true ∷ false ∷ false ∷ false ∷ false ∷ false ∷ false ∷ false ∷ false ∷ [];
  }

  after_3 : Settings
  after_3 = record {
    deck = s.deck;
    span = s.span;
    seed = base.seed;
    learn = base.learn;
    review = base.review;
    retention = base.retention;
    maxcost = base.maxcost;
    first = base.first;
    cost = base.cost;
    parameters = s.parameters;
    seen = true ∷ true ∷ true ∷ false ∷ false ∷ false ∷ false ∷ false ∷ false ∷ false ∷ [];
  }

  after_4 : Settings
  after_4 = record {
    deck = s.deck;
    span = s.span;
    seed = s.seed;
    learn = base.learn;
    review = base.review;
    retention = base.retention;
    maxcost = base.maxcost;
    first = base.first;
    cost = base.cost;
    parameters = s.parameters;
    seen = true ∷ true ∷ true ∷ true ∷ false ∷ false ∷ false ∷ false ∷ false ∷ false ∷ [];
  }

  after_5 : Settings
  after_5 = record {
    deck = s.deck;
    span = s.span;
    seed = s.seed;
    learn = s.learn;
    review = base.review;
    retention = base.retention;
    maxcost = base.maxcost;
    first = base.first;
    cost = base.cost;
    parameters = s.parameters;
    seen = true ∷ true ∷ true ∷ true ∷ true ∷ false ∷ false ∷ false ∷ false ∷ false ∷ [];
  }

  after_6 : Settings
  after_6 = record {
    deck = s.deck;
    span = s.span;
    seed = s.seed;
    learn = s.learn;
    review = s.review;
    retention = base.retention;
    maxcost = base.maxcost;
    first = base.first;
    cost = base.cost;
    parameters = s.parameters;
    seen = true ∷ true ∷ true ∷ true ∷ true ∷ true ∷ false ∷ false ∷ false ∷ false ∷ [];
  }

  after_7 : Settings
  after_7 = record {
    deck = s.deck;
    span = s.span;
    seed = s.seed;
    learn = s.learn;
    review = s.review;
    retention = s.retention;
    maxcost = base.maxcost;
    first = base.first;
    cost = base.cost;
    parameters = s.parameters;
    seen = true ∷ true ∷ true ∷ true ∷ true ∷ true ∷ true ∷ false ∷ false ∷ false ∷ [];
  }

  after_8 : Settings
  after_8 = record {
    deck = s.deck;
    span = s.span;
    seed = s.seed;
    learn = s.learn;
    review = s.review;
    retention = s.retention;
    maxcost = s.maxcost;
    first = base.first;
    cost = base.cost;
    parameters = s.parameters;
    seen = true ∷ true ∷ true ∷ true ∷ true ∷ true ∷ true ∷ true ∷ false ∷ false ∷ [];
  }

  after_9 : Settings
  after_9 = record {
    deck = s.deck;
    span = s.span;
    seed = s.seed;
    learn = s.learn;
    review = s.review;
    retention = s.retention;
    maxcost = s.maxcost;
    first = s.first;
    cost = base.cost;
    parameters = s.parameters;
    seen = true ∷ true ∷ true ∷ true ∷ true ∷ true ∷ true ∷ true ∷ true ∷ false ∷ [];
  }

  unfoldable pub after_10 : Settings
  after_10 = record {
    deck = s.deck;
    span = s.span;
    seed = s.seed;
    learn = s.learn;
    review = s.review;
    retention = s.retention;
    maxcost = s.maxcost;
    first = s.first;
    cost = replicate 12 (get_or s.cost 0 0);
    parameters = s.parameters;
    seen = true ∷ true ∷ true ∷ true ∷ true ∷ true ∷ true ∷ true ∷ true ∷ true ∷ [];
  }

  pub cost_words : AllWords ((bytes "all") ∷ hex (get_or s.cost 0 0) ∷ [])
  unfolding AllWords
  cost_words = (word-all, (hex-word (get_or s.cost 0 0), tt))

  says_parameters : takes Parameters (words_then (hexes s.parameters))
      (with_seen (set after_0.seen (place_of Parameters) true) after_0) ≡ Some after_1
  unfolding takes all_or place_of after_0 after_1
  says_parameters = rw (all-hexes s.parameters, sym ok.many, several_back s.parameters ok.parameters)

  free_parameters : get_or after_0.seen (place_of Parameters) false ≡ false
  unfolding place_of after_0
  free_parameters = refl

  line_parameters : line (parts (form_text (bytes "parameters") (hexes s.parameters))) after_0 ≡ Some after_1
  line_parameters = line_back (bytes "parameters") (hexes s.parameters) Parameters after_0 after_1 word_parameters
      (hexes-words s.parameters) name_parameters
      (form-good Parameters (words_then (hexes s.parameters)) after_0 after_1 free_parameters says_parameters)

  says_deck : takes Deck (words_then (decimal s.deck ∷ []))
      (with_seen (set after_1.seen (place_of Deck) true) after_1) ≡ Some after_2
  unfolding takes place_of after_1 after_2
  says_deck = rw (one_back number32 (decimal s.deck), number32_back s.deck ok.deck)

  free_deck : get_or after_1.seen (place_of Deck) false ≡ false
  unfolding place_of after_1
  free_deck = refl

  line-deck : line (parts (form_text (bytes "deck") (decimal s.deck ∷ []))) after_1 ≡ Some after_2
  line-deck = line_back (bytes "deck") (decimal s.deck ∷ []) Deck after_1 after_2 word-deck
      (one_word (decimal s.deck) (decimal-word s.deck)) name_deck
      (form-good Deck (words_then (decimal s.deck ∷ [])) after_1 after_2 free_deck says_deck)

  says_span : takes Span (words_then (decimal s.span ∷ []))
      (with_seen (set after_2.seen (place_of Span) true) after_2) ≡ Some after_3
  unfolding takes place_of after_2 after_3
  says_span = rw (one_back number32 (decimal s.span), number32_back s.span ok.span)

  free_span : get_or after_2.seen (place_of Span) false ≡ false
  unfolding place_of after_2
  free_span = refl

  line-span : line (parts (form_text (bytes "span") (decimal s.span ∷ []))) after_2 ≡ Some after_3
  line-span = line_back (bytes "span") (decimal s.span ∷ []) Span after_2 after_3 word-span
      (one_word (decimal s.span) (decimal-word s.span)) name_span
      (form-good Span (words_then (decimal s.span ∷ [])) after_2 after_3 free_span says_span)

  says_seed : takes Seed (words_then (decimal s.seed ∷ []))
      (with_seen (set after_3.seen (place_of Seed) true) after_3) ≡ Some after_4
  unfolding takes place_of after_3 after_4
  says_seed = rw (one_back number64 (decimal s.seed), number64_back s.seed ok.seed)

  free_seed : get_or after_3.seen (place_of Seed) false ≡ false
  unfolding place_of after_3
  free_seed = refl

  line_seed : line (parts (form_text (bytes "seed") (decimal s.seed ∷ []))) after_3 ≡ Some after_4
  line_seed = line_back (bytes "seed") (decimal s.seed ∷ []) Seed after_3 after_4 word_seed
      (one_word (decimal s.seed) (decimal-word s.seed)) name_seed
      (form-good Seed (words_then (decimal s.seed ∷ [])) after_3 after_4 free_seed says_seed)

  says_learn : takes Learn (words_then (decimal s.learn ∷ []))
      (with_seen (set after_4.seen (place_of Learn) true) after_4) ≡ Some after_5
  unfolding takes place_of after_4 after_5
  says_learn = rw (one_back number32 (decimal s.learn), number32_back s.learn ok.learn)

  free_learn : get_or after_4.seen (place_of Learn) false ≡ false
  unfolding place_of after_4
  free_learn = refl

  line_learn : line (parts (form_text (bytes "learn") (decimal s.learn ∷ []))) after_4 ≡ Some after_5
  line_learn = line_back (bytes "learn") (decimal s.learn ∷ []) Learn after_4 after_5 word_learn
      (one_word (decimal s.learn) (decimal-word s.learn)) name_learn
      (form-good Learn (words_then (decimal s.learn ∷ [])) after_4 after_5 free_learn says_learn)

  says_review : takes Review (words_then (decimal s.review ∷ []))
      (with_seen (set after_5.seen (place_of Review) true) after_5) ≡ Some after_6
  unfolding takes place_of after_5 after_6
  says_review = rw (one_back number32 (decimal s.review), number32_back s.review ok.review)

  free_review : get_or after_5.seen (place_of Review) false ≡ false
  unfolding place_of after_5
  free_review = refl

  line-review : line (parts (form_text (bytes "review") (decimal s.review ∷ []))) after_5 ≡ Some after_6
  line-review = line_back (bytes "review") (decimal s.review ∷ []) Review after_5 after_6 word-review
      (one_word (decimal s.review) (decimal-word s.review)) name_review
      (form-good Review (words_then (decimal s.review ∷ [])) after_5 after_6 free_review
      says_review)

  says_retention : takes Retention (words_then (hex s.retention ∷ []))
      (with_seen (set after_6.seen (place_of Retention) true) after_6) ≡ Some after_7
  unfolding takes place_of after_6 after_7
  says_retention = rw (one_back bits (hex s.retention), bits_back s.retention ok.retention)

  free_retention : get_or after_6.seen (place_of Retention) false ≡ false
  unfolding place_of after_6
  free_retention = refl

  line-retention : line (parts (form_text (bytes "retention") (hex s.retention ∷ []))) after_6 ≡ Some after_7
  line-retention = line_back (bytes "retention") (hex s.retention ∷ []) Retention after_6 after_7 word-retention
      (one_word (hex s.retention) (hex-word s.retention)) name_retention
      (form-good Retention (words_then (hex s.retention ∷ [])) after_6 after_7 free_retention says_retention)

  says_maxcost : takes Maxcost (words_then (hex s.maxcost ∷ []))
      (with_seen (set after_7.seen (place_of Maxcost) true) after_7) ≡ Some after_8
  unfolding takes place_of after_7 after_8
  says_maxcost = rw (one_back bits (hex s.maxcost), bits_back s.maxcost ok.maxcost)

  free_maxcost : get_or after_7.seen (place_of Maxcost) false ≡ false
  unfolding place_of after_7
  free_maxcost = refl

  line_maxcost : line (parts (form_text (bytes "maxcost") (hex s.maxcost ∷ []))) after_7 ≡ Some after_8
  line_maxcost = line_back (bytes "maxcost") (hex s.maxcost ∷ []) Maxcost after_7 after_8 word_maxcost
      (one_word (hex s.maxcost) (hex-word s.maxcost)) name_maxcost
      (form-good Maxcost (words_then (hex s.maxcost ∷ [])) after_7 after_8 free_maxcost
      says_maxcost)

  says_first : takes First (words_then (hexes s.first)) (with_seen (set after_8.seen (place_of First) true) after_8)
      ≡ Some after_9
  unfolding takes place_of after_8 after_9
  says_first = rw (sym ok.four, several_back s.first ok.first)

  free_first : get_or after_8.seen (place_of First) false ≡ false
  unfolding place_of after_8
  free_first = refl

  line_first : line (parts (form_text (bytes "first") (hexes s.first))) after_8 ≡ Some after_9
  line_first = line_back (bytes "first") (hexes s.first) First after_8 after_9 word_first (hexes-words s.first)
      name_first (form-good First (words_then (hexes s.first)) after_8 after_9 free_first
      says_first)

  says_cost : takes Cost (words_then ((bytes "all") ∷ hex (get_or s.cost 0 0) ∷ []))
      (with_seen (set after_9.seen (place_of Cost) true) after_9) ≡ Some after_10
  unfolding takes place_of after_9 after_10
  says_cost = rw (all_back (get_or s.cost 0 0) ok.cost)

  free_cost : get_or after_9.seen (place_of Cost) false ≡ false
  unfolding place_of after_9
  free_cost = refl

  line_cost : line (parts (form_text (bytes "cost") ((bytes "all") ∷ hex (get_or s.cost 0 0) ∷ []))) after_9
      ≡ Some after_10
  line_cost = line_back (bytes "cost") ((bytes "all") ∷ hex (get_or s.cost 0 0) ∷ []) Cost after_9 after_10 word_cost
      (cost_words) name_cost (form-good Cost (words_then ((bytes "all") ∷ hex (get_or s.cost 0 0) ∷ [])) after_9
      after_10 free_cost says_cost)

  pub forms_read : read_lines 1 (forms_of s ++ ([] ∷ [])) after_0 ≡ read_as after_10
  unfolding forms_of
  forms_read =
      next-line 1 (form_text (bytes "parameters") (hexes s.parameters))
      (form_text (bytes "deck") (decimal s.deck ∷ []) ∷ form_text (bytes "span") (decimal s.span ∷ []) ∷
      form_text (bytes "seed") (decimal s.seed ∷ []) ∷ form_text (bytes "learn") (decimal s.learn ∷ []) ∷
      form_text (bytes "review") (decimal s.review ∷ []) ∷ form_text (bytes "retention") (hex s.retention ∷ [])
      ∷ form_text (bytes "maxcost") (hex s.maxcost ∷ []) ∷ form_text (bytes "first") (hexes s.first) ∷ form_text
      (bytes "cost") ((bytes "all") ∷ hex (get_or s.cost 0 0) ∷ []) ∷ [] ∷ []) after_0 after_1 line_parameters
      ∙ (next-line 2 (form_text (bytes "deck") (decimal s.deck ∷ []))
      (form_text (bytes "span") (decimal s.span ∷ []) ∷ form_text (bytes "seed") (decimal s.seed ∷ []) ∷
      form_text (bytes "learn") (decimal s.learn ∷ []) ∷ form_text (bytes "review") (decimal s.review ∷ []) ∷
      form_text (bytes "retention") (hex s.retention ∷ []) ∷ form_text (bytes "maxcost") (hex s.maxcost ∷ []) ∷
      form_text (bytes "first") (hexes s.first) ∷ form_text (bytes "cost")
      ((bytes "all") ∷ hex (get_or s.cost 0 0) ∷ []) ∷ [] ∷ []) after_1 after_2 line-deck
      ∙ (next-line 3 (form_text (bytes "span") (decimal s.span ∷ []))
      (form_text (bytes "seed") (decimal s.seed ∷ []) ∷ form_text (bytes "learn") (decimal s.learn ∷ []) ∷
      form_text (bytes "review") (decimal s.review ∷ []) ∷ form_text (bytes "retention") (hex s.retention ∷ [])
      ∷ form_text (bytes "maxcost") (hex s.maxcost ∷ []) ∷ form_text (bytes "first") (hexes s.first) ∷ form_text
      (bytes "cost") ((bytes "all") ∷ hex (get_or s.cost 0 0) ∷ []) ∷ [] ∷ []) after_2 after_3 line-span
      ∙ (next-line 4 (form_text (bytes "seed") (decimal s.seed ∷ []))
      (form_text (bytes "learn") (decimal s.learn ∷ []) ∷ form_text (bytes "review") (decimal s.review ∷ []) ∷
      form_text (bytes "retention") (hex s.retention ∷ []) ∷ form_text (bytes "maxcost") (hex s.maxcost ∷ []) ∷
      form_text (bytes "first") (hexes s.first) ∷ form_text (bytes "cost")
      ((bytes "all") ∷ hex (get_or s.cost 0 0) ∷ []) ∷ [] ∷ []) after_3 after_4 line_seed
      ∙ (next-line 5 (form_text (bytes "learn") (decimal s.learn ∷ []))
      (form_text (bytes "review") (decimal s.review ∷ []) ∷ form_text (bytes "retention")
      (hex s.retention ∷ []) ∷ form_text (bytes "maxcost") (hex s.maxcost ∷ []) ∷ form_text (bytes "first")
      (hexes s.first) ∷ form_text (bytes "cost") ((bytes "all") ∷ hex (get_or s.cost 0 0) ∷ []) ∷ [] ∷ [])
      after_4 after_5 line_learn
      ∙ (next-line 6 (form_text (bytes "review") (decimal s.review ∷ []))
      (form_text (bytes "retention") (hex s.retention ∷ []) ∷ form_text (bytes "maxcost") (hex s.maxcost ∷ [])
      ∷ form_text (bytes "first") (hexes s.first) ∷ form_text (bytes "cost")
      ((bytes "all") ∷ hex (get_or s.cost 0 0) ∷ []) ∷ [] ∷ []) after_5 after_6 line-review
      ∙ (next-line 7 (form_text (bytes "retention") (hex s.retention ∷ []))
      (form_text (bytes "maxcost") (hex s.maxcost ∷ []) ∷ form_text (bytes "first") (hexes s.first) ∷ form_text
      (bytes "cost") ((bytes "all") ∷ hex (get_or s.cost 0 0) ∷ []) ∷ [] ∷ []) after_6 after_7 line-retention
      ∙ (next-line 8 (form_text (bytes "maxcost") (hex s.maxcost ∷ []))
      (form_text (bytes "first") (hexes s.first) ∷ form_text (bytes "cost")
      ((bytes "all") ∷ hex (get_or s.cost 0 0) ∷ []) ∷ [] ∷ []) after_7 after_8 line_maxcost
      ∙ (next-line 9 (form_text (bytes "first") (hexes s.first))
      (form_text (bytes "cost") ((bytes "all") ∷ hex (get_or s.cost 0 0) ∷ []) ∷ [] ∷ []) after_8 after_9 line_first
      ∙ (next-line 10 (form_text (bytes "cost") ((bytes "all") ∷ hex (get_or s.cost 0 0) ∷ [])) ([] ∷ []) after_9
      after_10 line_cost
      ∙ (last_line 11 after_10))))))))))
