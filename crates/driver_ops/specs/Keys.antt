-- The texts of those keys that are constants of this crate.
use Rattle.std.specs.Prelude.{◌≡◌, codes}
use Rattle.driver_ops.specs.declared.keys.TheConstants.{ARRAY_FILTERS, BASE_BACKOFF, BYPASS_DOCUMENT_VALIDATION, CHANGE, CODE_NAME, COLLATION, COMMENT, ERRORS_ONLY, ERROR_INFO, FIELDS, FILTER, FIND_QUERY, HINT, JOURNAL, LET, LIMIT, MAJORITY, MAX_TIME, MULTI, NEW, QUERY, REMOVE, SORT, UPDATE_MODIFICATIONS, UPSERT, W, W_TIMEOUT}

-- each key is its text
pub record HaveTexts : Type 0 where
  pub base_backoff : BASE_BACKOFF.now ≡ codes "baseBackoffMS"
  pub code_name : CODE_NAME.now ≡ codes "codeName"
  pub error_info : ERROR_INFO.now ≡ codes "errInfo"
  pub errors_only : ERRORS_ONLY.now ≡ codes "errorsOnly"
  pub array_filters : ARRAY_FILTERS.now ≡ codes "arrayFilters"
  pub bypass : BYPASS_DOCUMENT_VALIDATION.now ≡ codes "bypassDocumentValidation"
  pub change : CHANGE.now ≡ codes "u"
  pub collation : COLLATION.now ≡ codes "collation"
  pub comment : COMMENT.now ≡ codes "comment"
  pub fields : FIELDS.now ≡ codes "fields"
  pub filter : FILTER.now ≡ codes "filter"
  pub find_query : FIND_QUERY.now ≡ codes "query"
  pub hint : HINT.now ≡ codes "hint"
  pub journal : JOURNAL.now ≡ codes "j"
  pub let_vars : LET.now ≡ codes "let"
  pub limit : LIMIT.now ≡ codes "limit"
  pub majority : MAJORITY.now ≡ codes "majority"
  pub max_time : MAX_TIME.now ≡ codes "maxTimeMS"
  pub multi : MULTI.now ≡ codes "multi"
  pub new : NEW.now ≡ codes "new"
  pub query : QUERY.now ≡ codes "q"
  pub remove : REMOVE.now ≡ codes "remove"
  pub sort : SORT.now ≡ codes "sort"
  pub update_modifications : UPDATE_MODIFICATIONS.now ≡ codes "updateMods"
  pub upsert : UPSERT.now ≡ codes "upsert"
  pub w : W.now ≡ codes "w"
  pub w_timeout : W_TIMEOUT.now ≡ codes "wtimeout"
