-- Settings with one field set: what the grammar's forms do.
--   with_deck, with_span, with_seed, with_learn, with_review   the number of a form
--   with_retention, with_maxcost                            the bits of a form
--   with_first, with_cost, with_parameters                   the list of a form
--   with_seen                                              which forms stood on a line so far
use Rattle.std.specs.Prelude.{ℕ, Bool, List}
use Rattle.settings_text.specs.declared.Settings.{Settings}

abbrev pub with_deck : ℕ → Settings → Settings
with_deck v s = record {
  deck = v;
  span = s.span;
  seed = s.seed;
  learn = s.learn;
  review = s.review;
  retention = s.retention;
  maxcost = s.maxcost;
  first = s.first;
  cost = s.cost;
  parameters = s.parameters;
  seen = s.seen;
}

abbrev pub with_span : ℕ → Settings → Settings
with_span v s = record {
  deck = s.deck;
  span = v;
  seed = s.seed;
  learn = s.learn;
  review = s.review;
  retention = s.retention;
  maxcost = s.maxcost;
  first = s.first;
  cost = s.cost;
  parameters = s.parameters;
  seen = s.seen;
}

abbrev pub with_seed : ℕ → Settings → Settings
with_seed v s = record {
  deck = s.deck;
  span = s.span;
  seed = v;
  learn = s.learn;
  review = s.review;
  retention = s.retention;
  maxcost = s.maxcost;
  first = s.first;
  cost = s.cost;
  parameters = s.parameters;
  seen = s.seen;
}

abbrev pub with_learn : ℕ → Settings → Settings
with_learn v s = record {
  deck = s.deck;
  span = s.span;
  seed = s.seed;
  learn = v;
  review = s.review;
  retention = s.retention;
  maxcost = s.maxcost;
  first = s.first;
  cost = s.cost;
  parameters = s.parameters;
  seen = s.seen;
}

abbrev pub with_review : ℕ → Settings → Settings
with_review v s = record {
  deck = s.deck;
  span = s.span;
  seed = s.seed;
  learn = s.learn;
  review = v;
  retention = s.retention;
  maxcost = s.maxcost;
  first = s.first;
  cost = s.cost;
  parameters = s.parameters;
  seen = s.seen;
}

abbrev pub with_retention : ℕ → Settings → Settings
with_retention v s = record {
  deck = s.deck;
  span = s.span;
  seed = s.seed;
  learn = s.learn;
  review = s.review;
  retention = v;
  maxcost = s.maxcost;
  first = s.first;
  cost = s.cost;
  parameters = s.parameters;
  seen = s.seen;
}

abbrev pub with_maxcost : ℕ → Settings → Settings
with_maxcost v s = record {
  deck = s.deck;
  span = s.span;
  seed = s.seed;
  learn = s.learn;
  review = s.review;
  retention = s.retention;
  maxcost = v;
  first = s.first;
  cost = s.cost;
  parameters = s.parameters;
  seen = s.seen;
}

abbrev pub with_first : List ℕ → Settings → Settings
with_first v s = record {
  deck = s.deck;
  span = s.span;
  seed = s.seed;
  learn = s.learn;
  review = s.review;
  retention = s.retention;
  maxcost = s.maxcost;
  first = v;
  cost = s.cost;
  parameters = s.parameters;
  seen = s.seen;
}

abbrev pub with_cost : List ℕ → Settings → Settings
with_cost v s = record {
  deck = s.deck;
  span = s.span;
  seed = s.seed;
  learn = s.learn;
  review = s.review;
  retention = s.retention;
  maxcost = s.maxcost;
  first = s.first;
  cost = v;
  parameters = s.parameters;
  seen = s.seen;
}

abbrev pub with_parameters : List ℕ → Settings → Settings
with_parameters v s = record {
  deck = s.deck;
  span = s.span;
  seed = s.seed;
  learn = s.learn;
  review = s.review;
  retention = s.retention;
  maxcost = s.maxcost;
  first = s.first;
  cost = s.cost;
  parameters = v;
  seen = s.seen;
}

abbrev pub with_seen : List Bool → Settings → Settings
with_seen v s = record {
  deck = s.deck;
  span = s.span;
  seed = s.seed;
  learn = s.learn;
  review = s.review;
  retention = s.retention;
  maxcost = s.maxcost;
  first = s.first;
  cost = s.cost;
  parameters = s.parameters;
  seen = v;
}
