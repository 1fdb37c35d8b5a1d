-- A walk goes down the tree. What it found so far, with what it will find in the rest, is what it finds in all.
use Rattle.std.proofs.Common.{◌≡◌, ℕ, ◌+◌, ◌*◌, ◌-◌, ◌^◌, ◌<◌, min, Bool, ◌||◌, List, length, map, drop}
use denote.Param.Weighed.{most}
use Rattle.bson_lite.specs.declared.bson.Bson.{Bson, size-Bson}
use Rattle.bson_lite.specs.declared.document.Pair.{Pair}
use Rattle.bson_lite.specs.Spelling.{spelled, zero_within, zero_in, zero_in_values, valid, valid_pairs, valid_values, body_of, numbered}
use Rattle.bson_lite.proofs.survey.+survey.Given as goal

abbrev pub decreases-survey_value : goal.decreases-survey_value
decreases-survey_value l = 2 * size-Bson l.value.now

abbrev pub decreases-survey_values : goal.decreases-survey_values
decreases-survey_values l = 2 * most size-Bson l.values.now + 1

abbrev pub decreases-survey_pairs : goal.decreases-survey_pairs
decreases-survey_pairs l = 2 * most (λ pair. size-Bson pair.value) l.pairs.now + 1

-- the pairs from a place on, and all of them
pub record PairsLeft (pairs : List (Pair Bson)) (place count : ℕ) (before met : Bool) : Type 0 where
  pub zeros : (met || zero_in (drop place pairs)) ≡ (before || zero_in pairs)
  pub lengths : min (count + length (body_of (drop place pairs))) (2 ^ 64 - 1) ≡ min (length (body_of pairs)) (2 ^ 64 - 1)
  pub well_formed : valid_pairs (drop place pairs) ≡ valid_pairs pairs
  pub count_fits : count < 2 ^ 64

pub record ValuesLeft (values : List Bson) (place count : ℕ) (before met : Bool) : Type 0 where
  pub zeros : (met || zero_in_values (map zero_within (drop place values))) ≡ (before || zero_in_values (map zero_within values))
  pub lengths : min (count + length (numbered place (map spelled (drop place values)))) (2 ^ 64 - 1) ≡ min (length (numbered 0 (map spelled values))) (2 ^ 64 - 1)
  pub well_formed : valid_values (map valid (drop place values)) ≡ valid_values (map valid values)
  pub count_fits : count < 2 ^ 64

abbrev pub invariant-survey_pairs-loop-pair : goal.invariant-survey_pairs-loop-pair
invariant-survey_pairs-loop-pair l = PairsLeft l.pairs l.pair-index l.length l.fn.met l.met

abbrev pub invariant-survey_values-loop-place : goal.invariant-survey_values-loop-place
invariant-survey_values-loop-place l = ValuesLeft l.values l.place l.length l.fn.met l.met
