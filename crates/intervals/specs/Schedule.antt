-- `scheduled_interval`: what the table gives under a key, and when a held interval may be used. Of the memory model
-- it takes a curve, the chance of recall after so many days at the card's stability, and a fresh interval.
--     certifies curve stability retention interval most         `certifies_rounded_interval`; certifies_one,
--     certifies_range: its two cases
--     slot_in certified fresh t s r        the slot of a key: kept, to be entered, or none; slot_by: by what the lookup
--     found
--     is_full x, interval_of x              whether there is none, and the interval of a slot
--     entered t x     the table after what the slot asks
--     slot_of curves stability retention most t                  the slot of a card, by a model's curves
use Rattle.std.specs.Prelude.{Bool, true, false, cond, ◌&&◌, ℕ, Float}
use Rattle.std.specs.Float.{nan, binary32}
use Rattle.std.specs.Float.Ieee.{round, lt, le}
use Rattle.float32.specs.Float32.{is_finite, max, min}
use Rattle.float32.specs.Ops.{◌+ᶠ◌, ◌-ᶠ◌}
use Rattle.float32.specs.Numbers.{0ᶠ, 1ᶠ}
use Rattle.model.specs.Constants.{half}
use Rattle.model.specs.Model as Model
use Rattle.intervals.specs.Bucket.{stability_bucket, retention_bucket}
use Rattle.intervals.specs.declared.Entry.{Entry}
use Rattle.intervals.specs.declared.Entry.TheVariants as entry
use Rattle.intervals.specs.declared.Slot.{Slot}
use Rattle.intervals.specs.declared.Slot.TheVariants as slot
use Rattle.intervals.specs.Table.{Table, lookup_in, enter_in}

-- 1.5, where the rounding range of one day ends
abbrev pub one_and_half : Float
one_and_half = round binary32 false 15 10

-- 0.05, how far inside its rounding range an interval is tested
abbrev pub margin : Float
margin = round binary32 false 5 100

-- a chance of recall that is a number, and below the retention, or not below it
abbrev pub is_below : Float → Float → Bool
is_below chance retention = is_finite chance && lt chance retention

abbrev pub is_no_less : Float → Float → Bool
is_no_less chance retention = is_finite chance && le retention chance

-- an interval of one day: the chance is below the retention where the rounding range ends, or at the longest interval
unfoldable pub certifies_one : (Float → Float) → Float → Float → Bool
certifies_one curve retention most = is_below (curve (min (one_and_half -ᶠ margin) most)) retention

-- a longer one: the chance falls below the retention within the rounding range
unfoldable pub certifies_range : (Float → Float) → Float → Float → Bool
certifies_range curve retention interval =
    is_no_less (curve (max (interval -ᶠ half +ᶠ margin) 0ᶠ)) retention && is_below (curve (interval +ᶠ half -ᶠ margin))
    retention

abbrev pub all_finite : Float → Float → Float → Float → Bool
all_finite stability retention interval most = is_finite stability && is_finite retention && is_finite interval
    && is_finite most

-- `certifies_rounded_interval`; an interval that was cut at the longest one is not certified
unfoldable pub certifies : (Float → Float) → Float → Float → Float → Float → Bool
certifies curve stability retention interval most =
    all_finite stability retention interval most
    && cond (le interval 1ᶠ) (certifies_one curve retention most)
    (cond (le most interval) false (certifies_range curve retention interval))

-- a found interval is kept only if it is certified; else the fresh one is entered under the same key
abbrev pub slot_by : Entry → (Float → Bool) → Float → ℕ → ℕ → Slot
slot_by (entry.Found p v) certified fresh s r = cond (certified v) (slot.Keep v) (slot.Enter p s r fresh)
slot_by (entry.Free p) certified fresh s r = slot.Enter p s r fresh
slot_by entry.Full certified fresh s r = slot.Full

unfoldable pub slot_in : (Float → Bool) → Float → Table → ℕ → ℕ → Slot
slot_in certified fresh t s r = slot_by (lookup_in t s r) certified fresh s r

abbrev pub is_full : Slot → Bool
is_full (slot.Keep v) = false
is_full (slot.Enter p s r v) = false
is_full slot.Full = true

abbrev pub interval_of : Slot → Float
interval_of (slot.Keep v) = v
interval_of (slot.Enter p s r v) = v
interval_of slot.Full = nan

-- the table after what the slot asks
abbrev pub entered : Table → Slot → Table
entered t (slot.Keep v) = t
entered t (slot.Enter p s r v) = enter_in t p s r v
entered t slot.Full = t

-- `scheduled_interval` with a model's curves: the one of the stability certifies, and the interval that they schedule
-- is the fresh one
unfoldable pub slot_of : Model.Curves → Float → Float → Float → Table → Slot
slot_of curves stability retention most t =
    slot_in (λ held. certifies (λ x. Model.forgetting_curve curves x stability) stability retention held most)
    (Model.scheduled curves stability retention most)
    t
    (stability_bucket stability)
    (retention_bucket retention)
