-- The run of settings: the call of `simulate` that the code makes is that of the definition.
use mathlib.Core.Path.{◌≡◌, refl, sym, ap, ◌∙◌}
use Prim.Native.Nat.{ℕ, ◌≤◌}
use native.Mathlib.Omega.{arith}
use mathlib.Core.Bool.{Bool, true, false, cond}
use mathlib.Core.List.{List, []}
use lib.ListN.{length, take}
use lib.Seq.{take_all}
use lib.Dec.{ltb}
use lib.Ieee.{Float, binary32, of_bits}
use borrow.Author.Tests.{ltb-false}
use Rattle.cards.specs.declared.configuration.SimulatorConfig.{SimulatorConfig}
use Rattle.settings_text.specs.declared.Settings.{Settings}
use Rattle.runs.specs.Simulate.{Answer}
use Rattle.runs.specs.State.{Lent, state}
use Rattle.entry.specs.Entry.{settings, inputs}
use Rattle.runs.specs.Demands.{RunContract}
use Rattle.forecast_text.specs.Settings.{config_of, parameters_of, inputs_of, zero_above}
use Rattle.forecast_text.specs.Forecast.{lists, run_with, RunDays}

pub run_days : (s : Settings) (days : List (List ℕ)) (costs memorized : List Float)
    (g : SimulatorConfig) (w : List Float) (x : Float) (r : Answer) (l : Lent Float)
    → g ≡ config_of s → w ≡ parameters_of s → x ≡ of_bits binary32 s.retention
    → RunContract (inputs (settings g x s.seed) w [] []) (state (lists days costs memorized) 0 s.seed) r l
    → {days' : List (List ℕ)} {costs' memorized' : List Float} → days' ≡ l.days → costs' ≡ l.costs
    → memorized' ≡ l.memorized → RunDays (run_with days costs memorized s) r days' costs' memorized'
unfolding run_with inputs_of
run_days s days costs memorized g w x r l eg ew ex k d c m =
    let k' : RunContract (inputs_of s) (state (lists days costs memorized) 0 s.seed) r l = rw
    (sym eg, sym ew, sym ex) k in
    record {
      answer_is = k'.result.answer;
      days_are = d ∙ ap (λ (x : Lent Float). x.days) k'.result.lists;
      costs_are = c ∙ ap (λ (x : Lent Float). x.costs) k'.result.lists;
      memorized_are = m ∙ ap (λ (x : Lent Float). x.memorized) k'.result.lists;
    }

-- the first n of the parameters: all, or none where their form is missing
pub first_parameters : (b : Bool) (n : ℕ) (ws : List Float) → n ≡ cond b 34 0 → length ws ≡ 34 → take n ws
    ≡ cond b ws []
first_parameters true n ws e h = rw e (take_all 34 ws (omega (arith, h)))
first_parameters false n ws e h = rw e

pub few_parameters : (b : Bool) (n : ℕ) → n ≡ cond b 34 0 → n ≤ 34
few_parameters true n e = omega (arith, e)
few_parameters false n e = omega (arith, e)

pub zero_above-le : (most n r : ℕ) → r ≡ zero_above most n → r ≤ most
zero_above-le most n r = go (ltb most n) refl
  where
    go : (b : Bool) → ltb most n ≡ b → r ≡ cond b 0 n → r ≤ most
    go true e f = omega (arith, f)
    go false e f = omega (arith, f, ltb-false most n e)
