-- The frame of a command with the executor's fields reads as the send of what the command asks for.
use Rattle.std.proofs.Common.{◌≡◌, ℕ, List, [], ◌∷◌, ◌++◌, length, refl, ap, Bool, subst, sym}
use Rattle.std.specs.Prelude.{ℤ, true, false, Some, None, Option, bytes_eq, if◌then◌else◌}
use Rattle.std.specs.Option.{option_map}
use denote.Hole.Carrier.{out}
use Rattle.bson_lite.specs.declared.bson.Binary.{Binary}
use Rattle.bson_lite.specs.declared.bson.Bson.{Bson}
use Rattle.bson_lite.specs.declared.bson.Bson as bson
use Rattle.bson_lite.specs.declared.document.Pair.{Pair}
use Rattle.bson_lite.specs.Fields.{value_of}
use Rattle.bson_lite.proofs.Numbers.{bytes_eq-same}
use Rattle.wire_keys.specs.declared.keys.TheConstants.{AUTOCOMMIT, DATABASE, SESSION, START_TRANSACTION, TRANSACTION_NUMBER, UUID_SUBTYPE, WRITE_CONCERN}
use Rattle.driver_link.specs.declared.frame.Documents.{Documents}
use Rattle.driver_link.specs.declared.machine.Place.{Place}
use Rattle.driver_link.specs.declared.machine.SendBody.{SendBody}
use Rattle.driver_link.specs.Asking.{asks, spelled}
use Rattle.driver_link.specs.Commands.{flag, flag_value, goes_to, needed, optional, optional_value, sent_as, session_id_of, uuid_in}
use Rattle.driver_link.specs.Framed.{Framed}
use Rattle.driver_link.specs.Numbers.{field}
use Rattle.driver_link.specs.Reads.{SpellSequences}
use Rattle.driver_link.specs.Values.{text_of, int64_of, binary_of}
use Rattle.driver_link.specs.Writes.{is_common}
use Rattle.driver_link.proofs.Forms.{document_is, text_is}
use Rattle.driver_ops.specs.declared.command.Command.{Command}
use Rattle.driver_ops.specs.ConcernFields.{concern_value}
use Rattle.driver_ops.specs.Fields.{AreCommon, IsFrameOf, IsPlain, IsSixteen, SendContext, executor_fields, number_field, session_document, session_field, with_fields}
use Rattle.driver_ops.specs.OptionFields.{option_field}
use Rattle.driver_ops.specs.Operations.{Batch, IsBuilt, OperationSpec, ReadsAsAsked, front, send_of}
use Rattle.driver_ops.specs.SendKinds.{SendKind}

-- what values are as the fields of a command
pub int_is : (number : ℤ) → int64_of (bson.Int64 number) ≡ Some number
unfolding bson.out-Bson out
int_is number = refl

binary_is : (binary : Binary) → binary_of (bson.Binary binary) ≡ Some binary
unfolding bson.out-Bson out
binary_is binary = refl

uuid_is : (id : List ℕ) → length id ≡ 16 → uuid_in (record { subtype = UUID_SUBTYPE; bytes = id }) ≡ Some id
unfolding uuid_in
uuid_is id sixteen = rw sixteen

id_is : (id : List ℕ) → length id ≡ 16 → session_id_of (bson.Document (session_document id)) ≡ Some id
unfolding session_id_of session_document
id_is id sixteen = rw (document_is (session_document id), binary_is (record { subtype = UUID_SUBTYPE; bytes = id })) (uuid_is id sixteen)

some_is_not_none : (value : Bson) → Some value ≡ None → ⊥
some_is_not_none value is = cc

-- a key that a body does not have is found behind it
pub skips : (key : List ℕ) (body fields : List (Pair Bson)) → value_of key body ≡ None → value_of key (body ++ fields) ≡ value_of key fields
skips key [] fields none = refl
skips key (pair ∷ body) fields none = by_test (bytes_eq pair.key key) (skips key body fields) none
  where
    by_test : (same : Bool) → (value_of key body ≡ None → value_of key (body ++ fields) ≡ value_of key fields)
        → (if same then Some pair.value else value_of key body) ≡ None
        → (if same then Some pair.value else value_of key (body ++ fields)) ≡ value_of key fields
    by_test true rest none = absurd (some_is_not_none pair.value none)
    by_test false rest none = rest none

-- the executor's fields by their parts
abbrev fields_of : Option (List ℕ) → Option ℤ → Option Bson → List ℕ → List (Pair Bson)
fields_of session number concern database =
    session_field session ++ number_field number ++ option_field WRITE_CONCERN.now concern ++ field DATABASE.now (bson.String database) ∷ []

-- what stands under the keys of the executor's fields
database_of_parts : (session : Option (List ℕ)) (number : Option ℤ) (concern : Option Bson) (database : List ℕ)
    → value_of DATABASE.now (fields_of session number concern database) ≡ Some (bson.String database)
unfolding session_field number_field
database_of_parts None None None database = refl
database_of_parts None None (Some concern) database = refl
database_of_parts None (Some number) None database = refl
database_of_parts None (Some number) (Some concern) database = refl
database_of_parts (Some id) None None database = refl
database_of_parts (Some id) None (Some concern) database = refl
database_of_parts (Some id) (Some number) None database = refl
database_of_parts (Some id) (Some number) (Some concern) database = refl

session_of_parts : (session : Option (List ℕ)) (number : Option ℤ) (concern : Option Bson) (database : List ℕ)
    → value_of SESSION.now (fields_of session number concern database) ≡ option_map (λ id. bson.Document (session_document id)) session
unfolding session_field number_field
session_of_parts None None None database = refl
session_of_parts None None (Some concern) database = refl
session_of_parts None (Some number) None database = refl
session_of_parts None (Some number) (Some concern) database = refl
session_of_parts (Some id) number concern database = refl

number_of_parts : (session : Option (List ℕ)) (number : Option ℤ) (concern : Option Bson) (database : List ℕ)
    → value_of TRANSACTION_NUMBER.now (fields_of session number concern database) ≡ option_map (λ one. bson.Int64 one) number
unfolding session_field number_field
number_of_parts None None None database = refl
number_of_parts None None (Some concern) database = refl
number_of_parts None (Some number) concern database = refl
number_of_parts (Some id) None None database = refl
number_of_parts (Some id) None (Some concern) database = refl
number_of_parts (Some id) (Some number) concern database = refl

start_of_parts : (session : Option (List ℕ)) (number : Option ℤ) (concern : Option Bson) (database : List ℕ)
    → value_of START_TRANSACTION.now (fields_of session number concern database) ≡ None
unfolding session_field number_field
start_of_parts None None None database = refl
start_of_parts None None (Some concern) database = refl
start_of_parts None (Some number) None database = refl
start_of_parts None (Some number) (Some concern) database = refl
start_of_parts (Some id) None None database = refl
start_of_parts (Some id) None (Some concern) database = refl
start_of_parts (Some id) (Some number) None database = refl
start_of_parts (Some id) (Some number) (Some concern) database = refl

autocommit_of_parts : (session : Option (List ℕ)) (number : Option ℤ) (concern : Option Bson) (database : List ℕ)
    → value_of AUTOCOMMIT.now (fields_of session number concern database) ≡ None
unfolding session_field number_field
autocommit_of_parts None None None database = refl
autocommit_of_parts None None (Some concern) database = refl
autocommit_of_parts None (Some number) None database = refl
autocommit_of_parts None (Some number) (Some concern) database = refl
autocommit_of_parts (Some id) None None database = refl
autocommit_of_parts (Some id) None (Some concern) database = refl
autocommit_of_parts (Some id) (Some number) None database = refl
autocommit_of_parts (Some id) (Some number) (Some concern) database = refl

-- they are fields that stand in commands of every kind
common_parts : (session : Option (List ℕ)) (number : Option ℤ) (concern : Option Bson) (database : List ℕ) → AreCommon (fields_of session number concern database)
unfolding session_field number_field is_common
common_parts None None None database = (refl, tt)
common_parts None None (Some concern) database = (refl, (refl, tt))
common_parts None (Some number) None database = (refl, (refl, tt))
common_parts None (Some number) (Some concern) database = (refl, (refl, (refl, tt)))
common_parts (Some id) None None database = (refl, (refl, tt))
common_parts (Some id) None (Some concern) database = (refl, (refl, (refl, tt)))
common_parts (Some id) (Some number) None database = (refl, (refl, (refl, tt)))
common_parts (Some id) (Some number) (Some concern) database = (refl, (refl, (refl, (refl, tt))))

-- the same of the fields as they come from a context
module _ (context : SendContext) (database : List ℕ) where
  abbrev appended : List (Pair Bson)
  appended = executor_fields context database

  database_in : value_of DATABASE.now appended ≡ Some (bson.String database)
  unfolding executor_fields
  database_in = database_of_parts context.session context.number (concern_value context.concern) database

  session_in : value_of SESSION.now appended ≡ option_map (λ id. bson.Document (session_document id)) context.session
  unfolding executor_fields
  session_in = session_of_parts context.session context.number (concern_value context.concern) database

  number_in : value_of TRANSACTION_NUMBER.now appended ≡ option_map (λ one. bson.Int64 one) context.number
  unfolding executor_fields
  number_in = number_of_parts context.session context.number (concern_value context.concern) database

  start_in : value_of START_TRANSACTION.now appended ≡ None
  unfolding executor_fields
  start_in = start_of_parts context.session context.number (concern_value context.concern) database

  autocommit_in : value_of AUTOCOMMIT.now appended ≡ None
  unfolding executor_fields
  autocommit_in = autocommit_of_parts context.session context.number (concern_value context.concern) database

  are_common : AreCommon appended
  unfolding executor_fields
  are_common = common_parts context.session context.number (concern_value context.concern) database

-- a session and a number that may be missing are read again
session_read : (session : Option (List ℕ)) → IsSixteen session
    → optional_value session_id_of (option_map (λ id. bson.Document (session_document id)) session) ≡ Some session
unfolding optional_value
session_read None sixteen = refl
session_read (Some id) sixteen = ap (λ found. option_map (λ one. Some one) found) (id_is id sixteen)

number_read : (number : Option ℤ) → optional_value int64_of (option_map (λ one. bson.Int64 one) number) ≡ Some number
unfolding optional_value
number_read None = refl
number_read (Some number) = ap (λ found. option_map (λ one. Some one) found) (int_is number)

-- the executor's fields are found where the body before them has none of them
module _ (body : List (Pair Bson)) (context : SendContext) (database : List ℕ) (plain : IsPlain body) (sixteen : IsSixteen context.session) where
  abbrev joined : List (Pair Bson)
  joined = body ++ executor_fields context database

  behind : (key : List ℕ) → value_of key body ≡ None → value_of key joined ≡ value_of key (executor_fields context database)
  behind key none = skips key body (executor_fields context database) none

  database_of : needed text_of DATABASE.now joined ≡ Some database
  unfolding needed
  database_of = rw (behind DATABASE.now plain.1.1.1.1.1.1.1.1.0, database_in context database) (text_is database)

  goes : goes_to database joined ≡ true
  unfolding goes_to
  goes = rw database_of (bytes_eq-same database)

  session_of : optional session_id_of SESSION.now joined ≡ Some context.session
  session_of = rw (behind SESSION.now plain.0, session_in context database) (session_read context.session sixteen)

  number_of : optional int64_of TRANSACTION_NUMBER.now joined ≡ Some context.number
  number_of = rw (behind TRANSACTION_NUMBER.now plain.1.0, number_in context database) (number_read context.number)

  start_of : flag true START_TRANSACTION.now joined ≡ Some false
  unfolding flag_value
  start_of = rw (behind START_TRANSACTION.now plain.1.1.1.0, start_in context database) refl

  autocommit_of : flag false AUTOCOMMIT.now joined ≡ Some false
  unfolding flag_value
  autocommit_of = rw (behind AUTOCOMMIT.now plain.1.1.1.1.0, autocommit_in context database) refl

  sent_is : (asked : SendBody) → sent_as joined asked ≡ Some (send_of context asked)
  unfolding sent_as
  sent_is asked = rw (session_of, number_of, start_of, autocommit_of)

  spells : (sequences : List Documents) (places : List Place) (asked : SendBody) → asks database joined sequences places ≡ Some asked
      → spelled database joined sequences places ≡ Some (send_of context asked)
  unfolding spelled
  spells sequences places asked is = rw (goes, is) (sent_is asked)

-- the frame of a built command with the executor's fields reads as what is asked for
pub reads_as_asked : {A : Type 0} (spec : OperationSpec A) (which : SendKind) (batch : Batch) (context : SendContext) (command : Command) (frame : Framed)
    → IsSixteen context.session → IsBuilt spec which batch.statements command → IsFrameOf (with_fields context command) frame
    → ReadsAsAsked spec batch context frame
reads_as_asked spec which batch context command frame sixteen built made body asked =
    let asks = built.asks batch.places body asked in
    record {
      body = command.body ++ executor_fields context command.database;
      sequences = asks.sequences;
      body_spelled = made.spelled;
      sequences_spelled = subst (SpellSequences asks.sequences) (sym made.sequences) asks.spelled;
      spelled = subst (λ database. spelled database (command.body ++ executor_fields context command.database) asks.sequences (front batch) ≡ Some (send_of context body))
          (sym made.database)
          (spells command.body context command.database built.plain sixteen asks.sequences (front batch) body
          (asks.asks _ (are_common context command.database)));
    }
