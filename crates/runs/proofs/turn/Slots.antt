-- What the run asks of a model's slots (`Slots`); that slots of an interval table have it (`table_slots`), and those of
-- a model without one (`plain_slots`).
use mathlib.Core.Path.{◌≡◌, refl, sym, ◌∙◌}
use mathlib.Core.Bool.{true, false}
use native.Mathlib.Omega.{arith}
use lib.Ieee.{Float}
use Rattle.cards.specs.declared.configuration.SimulatorConfig.{SimulatorConfig}
use Rattle.cards.specs.Day.{IntervalInRange}
use Rattle.cards.proofs.Later.{in_range_used}
use Rattle.events.specs.Scalars.{Scalars}
use Rattle.intervals.specs.declared.Slot.TheVariants as slot
use Rattle.intervals.specs.Bucket.{stability_bucket, retention_bucket}
use Rattle.intervals.specs.Table.{Table, places}
use Rattle.intervals.specs.Schedule.{is_full, interval_of, entered, certifies}
use Rattle.intervals.proofs.Longer.{SameEntries}
use Rattle.intervals.specs.Table.{Sound}
use Rattle.intervals.proofs.Schedule.{interval-all, slot_sound, slot_full_iff, same_slot}
use Rattle.runs.specs.Invariant.{TableInRange}
use Rattle.runs.specs.Model.{Model, model_of}

pub record Slots (m : Model) : Type 0 where
  -- an interval is 1 to 36,500
  pub fair : (t : Table) → TableInRange t → (x y : Float) → is_full (m.slot t x y) ≡ false
      → IntervalInRange (interval_of (m.slot t x y))
  -- a sound table stays sound
  pub sound : (t : Table) → Sound t → (x y : Float) → Sound (entered t (m.slot t x y))
  -- two tables that hold the same give the same, unless the shorter one is full
  pub same_entries : (t t' : Table) → SameEntries t t' → (x y : Float) → is_full (m.slot t x y) ≡ false
      → (interval_of (m.slot t x y) ≡ interval_of (m.slot t' x y)) × (is_full (m.slot t' x y) ≡ false)
      × SameEntries (entered t (m.slot t x y)) (entered t' (m.slot t' x y))
  -- and where they are equally long, the second is full where the first is
  pub fulls : (t t' : Table) → SameEntries t t' → places t ≡ places t' → (x y : Float) → is_full (m.slot t x y) ≡ true
      → is_full (m.slot t' x y) ≡ true

module _ (g : SimulatorConfig) (x : Scalars)
    (fair : (s r : Float) → IntervalInRange (x.interval s r g.max_ivl)) where
  pub table_slots : Slots (model_of g x)
  table_slots = record {
    fair = λ t h s r. interval-all t (stability_bucket s) (retention_bucket r)
        (λ v. certifies (λ d. x.chance d s) s r v g.max_ivl) (x.interval s r g.max_ivl) IntervalInRange h
        (fair s r);
    sound = λ t ok s r. slot_sound t (stability_bucket s) (retention_bucket r)
        (λ v. certifies (λ d. x.chance d s) s r v g.max_ivl) (x.interval s r g.max_ivl)
        (in_range_used (x.interval s r g.max_ivl) (fair s r)) ok;
    fulls = λ t t' w p s r e.
        let a = (slot_full_iff t (stability_bucket s) (retention_bucket r)
        (λ v. certifies (λ d. x.chance d s) s r v g.max_ivl) (x.interval s r g.max_ivl)).0 e in
        (slot_full_iff t' (stability_bucket s) (retention_bucket r)
        (λ v. certifies (λ d. x.chance d s) s r v g.max_ivl) (x.interval s r g.max_ivl)).1
        (sym (w.held (stability_bucket s) (retention_bucket r)) ∙ a.0, omega (arith, a.1, w.count, p));
    same_entries = λ t t' w s r. same_slot t t' w (stability_bucket s) (retention_bucket r)
        (λ v. certifies (λ d. x.chance d s) s r v g.max_ivl) (x.interval s r g.max_ivl)
        (in_range_used (x.interval s r g.max_ivl) (fair s r));
  }

  -- the same model without a table
  abbrev pub untabled : Model
  untabled = record {
    chance = (model_of g x).chance;
    event = (model_of g x).event;
    ratings = (model_of g x).ratings;
    slot = λ t s r. slot.Keep (x.interval s r g.max_ivl);
  }

  pub plain_slots : Slots untabled
  plain_slots = record {
    fair = λ t h s r e. fair s r;
    sound = λ t ok s r. ok;
    same_entries = λ t t' w s r e. (refl, refl, w);
    fulls = λ t t' w p s r e. e;
  }
