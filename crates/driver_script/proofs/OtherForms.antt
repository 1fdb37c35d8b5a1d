-- Values of a kind other than the one that is asked for.
use Rattle.std.proofs.Common.{◌≡◌, Option, None, option_map, refl, subst, sym}
use Rattle.std.specs.Prelude.{Result}
use Rattle.json.specs.Json.{Json, null, boolean, number, string, array, object}
use Rattle.json.specs.Find.{as_array, as_bool, as_str}
use Rattle.serde_json.specs.Data.{Data}
use Rattle.driver_options.specs.declared.concerns.Acknowledgment.{Acknowledgment}
use Rattle.driver_options.specs.declared.concerns.Acknowledgment.TheVariants.{Nodes}
use Rattle.driver_options.specs.declared.updates.UpdateModifications.{UpdateModifications}
use Rattle.driver_script.specs.Parts.{pipeline_of, update_of}
use Rattle.driver_script.specs.Options.{acknowledgment_of, flag_of, read_concern_of}
use Rattle.script_parts.specs.Json.{GivesPart, has_only, list_of}
use Rattle.script_parts.specs.Values.{small_of}
use Rattle.script_parts.specs.declared.forms.Unread.{Unread}
use Rattle.script_parts.specs.inside.Tree.{view}

-- ---- no array

pub no_list : {A : Type 0} (form : Data → Option A) (j : Json) → as_array j ≡ None → list_of form (view j) ≡ None
unfolding list_of
no_list form null is = refl
no_list form (boolean b) is = refl
no_list form (number s) is = refl
no_list form (string s) is = refl
no_list form (array js) is = absurd (cc)
no_list form (object ms) is = refl

pipeline_left : (j : Json) → as_array j ≡ None → update_of (view j) ≡ pipeline_of (view j)
unfolding update_of pipeline_of has_only
pipeline_left null is = refl
pipeline_left (boolean b) is = refl
pipeline_left (number s) is = refl
pipeline_left (string s) is = refl
pipeline_left (array js) is = absurd (cc)
pipeline_left (object ms) is = refl

-- what is no array is an update where it is a pipeline
pub pipeline_read : (read : Result UpdateModifications Unread) (j : Json) → as_array j ≡ None → GivesPart read (pipeline_of (view j)) → GivesPart read (update_of (view j))
pipeline_read read j is gives = subst (GivesPart read) (sym (pipeline_left j is)) gives

-- ---- no text

nodes_left : (j : Json) → as_str j ≡ None → acknowledgment_of (view j) ≡ option_map Nodes (small_of (view j))
unfolding acknowledgment_of small_of
nodes_left null is = refl
nodes_left (boolean b) is = refl
nodes_left (number s) is = refl
nodes_left (string s) is = absurd (cc)
nodes_left (array js) is = refl
nodes_left (object ms) is = refl

-- what is no text names servers where it is a number
pub nodes_read : (read : Result Acknowledgment Unread) (j : Json) → as_str j ≡ None → GivesPart read (option_map Nodes (small_of (view j)))
    → GivesPart read (acknowledgment_of (view j))
nodes_read read j is gives = subst (GivesPart read) (sym (nodes_left j is)) gives

pub no_level : (j : Json) → as_str j ≡ None → read_concern_of (view j) ≡ None
unfolding read_concern_of
no_level null is = refl
no_level (boolean b) is = refl
no_level (number s) is = refl
no_level (string s) is = absurd (cc)
no_level (array js) is = refl
no_level (object ms) is = refl

-- ---- neither true nor false

pub no_flag : (j : Json) → as_bool j ≡ None → flag_of (view j) ≡ None
unfolding flag_of
no_flag null is = refl
no_flag (boolean b) is = absurd (cc)
no_flag (number s) is = refl
no_flag (string s) is = refl
no_flag (array js) is = refl
no_flag (object ms) is = refl
