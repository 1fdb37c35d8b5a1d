-- Redaction goes through all sources, and twice is once.
use Rattle.std.proofs.Common.{◌≡◌, refl, sym, ap, ◌∙◌, ℕ, suc, zero, List, [], ◌∷◌, map, Option, None, Some, arith}
use Rattle.std.specs.Cmp.{nat_cmp_total}
use Rattle.std.specs.FinMap as finite
use Rattle.std.specs.Option.{option_map}
use Rattle.std.specs.Ordering.{nat_cmp}
use Rattle.bson_lite.proofs.FinMaps.{get-changed}
use Rattle.bson_lite.specs.Indexed.{changed}
use Rattle.driver_error.specs.declared.error.Error.{Error, Error-F, out-Error, roll-Error, out-roll-Error}
use Rattle.driver_error.specs.declared.kind.ErrorKind.TheVariants as kind
use Rattle.driver_error.specs.declared.write.WriteFailure.TheVariants as failure
use Rattle.driver_error.specs.Chains.{one_more, depth}
use Rattle.driver_error.specs.Error.{ErrorKind, source_of, kind_of, labels_of, wire_version_of, response_of}
use Rattle.driver_error.specs.LabelTexts.{LabelSet}
use Rattle.driver_error.specs.Redaction.{redacted_concern, redacted_write, redacted_indexed, redacted_kind, redacted_layer, redacted_down, redacted, redacted_reply}
use Rattle.driver_error.proofs.Chains.{depth_out, depth_of}

redacted_from : (error : Error) (source : Option Error) → source_of error ≡ source
    → redacted error ≡ roll-Error (redacted_layer (out-Error error) (option_map redacted source))
unfolding redacted
redacted_from error None is = ap (λ count. redacted_down count error) (depth_out error ∙ ap (λ s. one_more (option_map depth s)) is)
redacted_from error (Some source) is =
    ap (λ count. redacted_down count error) (depth_out error ∙ ap (λ s. one_more (option_map depth s)) is)
    ∙ ap (λ s. roll-Error (redacted_layer (out-Error error) (option_map (redacted_down (depth source)) s))) is

-- a redacted error stands over its redacted source
pub redacted_out : (error : Error) → redacted error ≡ roll-Error (redacted_layer (out-Error error) (option_map redacted (source_of error)))
redacted_out error = redacted_from error (source_of error) refl

map_again : {X : Type 0} (f : X → X) → ((x : X) → f (f x) ≡ f x) → (xs : List X) → map f (map f xs) ≡ map f xs
map_again f once [] = refl
map_again f once (x ∷ xs) = λ i. once x i ∷ map_again f once xs i

option_again : {X : Type 0} (f : X → X) → ((x : X) → f (f x) ≡ f x) → (o : Option X) → option_map f (option_map f o) ≡ option_map f o
option_again f once None = refl
option_again f once (Some x) = ap Some (once x)

changed_again : {X : Type 0} (f : X → X) → ((x : X) → f (f x) ≡ f x) → (m : finite.FinMap nat_cmp X) → changed f (changed f m) ≡ changed f m
changed_again f once m = finite.same_map nat_cmp_total finite.nat_cmp-IsAntisymmetric _ _ (λ q.
    get-changed f (changed f m) q ∙ ap (option_map f) (get-changed f m q) ∙ option_again f once (finite.get m q) ∙ sym (get-changed f m q))

kind_again : (why : ErrorKind) → redacted_kind (redacted_kind why) ≡ redacted_kind why
kind_again (kind.InsertMany error) = λ i. kind.InsertMany (record error {
  write_errors = option_again (map redacted_indexed) (map_again redacted_indexed (λ e. refl)) error.write_errors i;
  write_concern_error = option_again redacted_concern (λ e. refl) error.write_concern_error i;
})
kind_again (kind.BulkWrite error) = λ i. kind.BulkWrite (record error {
  write_concern_errors = map_again redacted_concern (λ e. refl) error.write_concern_errors i;
  write_errors = changed_again redacted_write (λ e. refl) error.write_errors i;
})
kind_again (kind.Command error) = refl
kind_again (kind.Write (failure.WriteConcernError error)) = refl
kind_again (kind.Write (failure.WriteError error)) = refl
kind_again why = refl

-- a layer redacted twice stands over the last source
layer_again : (layer : Error-F Error) (below source : Option Error) → redacted_layer (redacted_layer layer below) source ≡ redacted_layer layer source
layer_again layer below source = λ i. record layer {
  kind = kind_again layer.kind i;
  source = source;
  server_response = option_again (λ _. redacted_reply) (λ e. refl) layer.server_response i;
}

abbrev source_again : Option Error → Type 0
source_again source = option_map redacted (option_map redacted source) ≡ option_map redacted source

again_over : (error : Error) → source_again (source_of error) → redacted (redacted error) ≡ redacted error
again_over error below =
    let layer = out-Error error in
    let source = option_map redacted (source_of error) in
    let once : out-Error (redacted error) ≡ redacted_layer layer source = ap out-Error (redacted_out error) ∙ out-roll-Error (redacted_layer layer source) in
    redacted_out (redacted error)
    ∙ ap (λ x. roll-Error (redacted_layer x (option_map redacted x.source))) once
    ∙ ap roll-Error (layer_again layer source (option_map redacted source))
    ∙ ap (λ s. roll-Error (redacted_layer layer s)) below
    ∙ sym (redacted_out error)

source_by : (source : Option Error) → ((cause : Error) → source ≡ Some cause → redacted (redacted cause) ≡ redacted cause) → source_again source
source_by None each = refl
source_by (Some cause) each = ap Some (each cause refl)

again_down : (count : ℕ) (error : Error) → depth error ≡ count → redacted (redacted error) ≡ redacted error
again_down zero error is = again_over error (source_by (source_of error) (λ cause e. let one = depth_of error (Some cause) e in absurd (omega (arith, is, one))))
again_down (suc count) error is = again_over error (source_by (source_of error) (λ cause e. let one = depth_of error (Some cause) e in again_down count cause (omega (arith, is, one))))

-- redacting twice is redacting once
pub redacted_again : (error : Error) → redacted (redacted error) ≡ redacted error
redacted_again error = again_down (depth error) error refl

-- an error made of redacted parts
pub redacted_made : (error : Error) (why : ErrorKind) (labels : LabelSet) (source : Option Error) (response : Option (List ℕ))
    → why ≡ redacted_kind (kind_of error) → labels ≡ labels_of error → source ≡ option_map redacted (source_of error)
    → response ≡ option_map (λ _. redacted_reply) (response_of error)
    → roll-Error (record { kind = why; labels = labels; wire_version = wire_version_of error; source = source; server_response = response }) ≡ redacted error
redacted_made error why labels source response kind_is labels_are source_is response_is =
    (λ i. roll-Error (record { kind = kind_is i; labels = labels_are i; wire_version = wire_version_of error; source = source_is i; server_response = response_is i }))
    ∙ sym (redacted_out error)
