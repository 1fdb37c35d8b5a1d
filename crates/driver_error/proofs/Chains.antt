-- The chain of an error is the error and the chain of its source.
use Rattle.std.proofs.Common.{◌≡◌, refl, sym, ap, ◌∙◌, ℕ, ℤ, true, ◌||◌, List, [], ◌∷◌, Option, None, Some, is_some}
use Rattle.std.specs.List.{list_any}
use Rattle.std.specs.Option.{option_map}
use Rattle.driver_error.specs.declared.error.Error.{Error, Error-F, out-Error, fold_out-Error}
use Rattle.driver_error.specs.declared.error.Error.TheFolds.{map-Error}
use Rattle.driver_error.specs.Chains.{one_more, depth, of_source, down, chain, contains_label, first_code, first_of, sdam_code}
use Rattle.driver_error.specs.Error.{source_of, kind_of, labels_of}
use Rattle.driver_error.specs.Kinds.{own_code}
use Rattle.driver_error.specs.LabelTexts.{has_label}

-- a layer over numbers has that of its source
source_of_layer : (number : Error → ℕ) (layer : Error-F Error) (source : Option Error)
    → (map-Error Error ℕ number (record layer { source = source })).source ≡ option_map number source
source_of_layer number layer None = refl
source_of_layer number layer (Some source) = refl

-- an error stands one above its source
pub depth_out : (error : Error) → depth error ≡ one_more (option_map depth (source_of error))
depth_out error =
    fold_out-Error ℕ (λ layer. one_more layer.source) error
    ∙ ap one_more (source_of_layer depth (out-Error error) (source_of error))

pub depth_of : (error : Error) (source : Option Error) → source_of error ≡ source → depth error ≡ one_more (option_map depth source)
depth_of error source is = depth_out error ∙ ap (λ s. one_more (option_map depth s)) is

chain_from : (error : Error) (source : Option Error) → source_of error ≡ source → chain error ≡ error ∷ of_source chain source
unfolding chain
chain_from error None is = ap (λ count. down count error) (depth_of error None is)
chain_from error (Some source) is =
    ap (λ count. down count error) (depth_of error (Some source) is) ∙ ap (λ s. error ∷ of_source (down (depth source)) s) is

pub chain_out : (error : Error) → chain error ≡ error ∷ of_source chain (source_of error)
chain_out error = chain_from error (source_of error) refl

pub chain_end : (error : Error) → source_of error ≡ None → chain error ≡ error ∷ []
chain_end error is = chain_from error None is

pub chain_on : (error source : Error) → source_of error ≡ Some source → chain error ≡ error ∷ chain source
chain_on error source is = chain_from error (Some source) is

-- a label of the error itself
pub contains_here : (error : Error) (label : List ℕ) → has_label (labels_of error) label ≡ true → true ≡ contains_label label error
contains_here error label here =
    sym (ap (list_any (λ one. has_label (labels_of one) label)) (chain_out error)
    ∙ ap (λ b. b || list_any (λ one. has_label (labels_of one) label) (of_source chain (source_of error))) here)

-- a code of the error itself
pub code_here : (error : Error) (own : Option ℤ) → own ≡ own_code (kind_of error) → is_some own ≡ true → own ≡ sdam_code error
code_here error None here is = absurd cc
code_here error (Some code) here is =
    sym (ap first_of (chain_out error) ∙ ap (λ own. first_code own (first_of (of_source chain (source_of error)))) (sym here))
