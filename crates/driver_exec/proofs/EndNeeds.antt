-- What an end needs, once the link had answered before it, or answers more.
use Rattle.std.proofs.Common.{◌≡◌, ℕ, ◌≤◌, List, [], ◌∷◌, ◌++◌, subst, inl, inr, arith}
use Rattle.std.proofs.lemmas.List.{append_assoc}
use Rattle.std.specs.Prelude.{◌⊎◌, Option, None, Some, Ok, Err}
use Rattle.bson_lite.specs.Spelling.{Spells}
use Rattle.driver_error.specs.declared.kind.ErrorKind.TheVariants as kind
use Rattle.driver_error.specs.Error.{ErrorKind}
use Rattle.driver_error.specs.LabelTexts.{LabelSet}
use Rattle.link_faults.specs.declared.fault.Answered.{Answered}
use Rattle.link_faults.specs.declared.fault.Answered.TheVariants as answer
use Rattle.link_faults.specs.declared.fault.LinkCall.TheVariants as call
use Rattle.link_faults.specs.declared.fault.LinkFault.{LinkFault}
use Rattle.link_faults.specs.declared.fault.LinkFault.TheVariants as fault
use Rattle.driver_link.specs.declared.machine.Setup.{Setup}
use Rattle.driver_link.specs.Faults.{Rose}
use Rattle.driver_link.specs.LinkState.{GainsAll}
use Rattle.driver_session.specs.declared.retryability.Retryability.{Retryability}
use Rattle.driver_session.specs.declared.retryability.Retryability.TheVariants as may
use Rattle.driver_ops.specs.Operations.{OperationSpec, Page}
use Rattle.driver_ops.specs.Responses.{ReadsResponse}
use Rattle.driver_attempt.specs.Causes.{AllEarly, ErrorOutline, HasExchangeFault, HasReply}
use Rattle.driver_attempt.specs.Failures.{IsFaultOf}
use Rattle.driver_exec.specs.OperationCauses.{EndAtLast, EndNeeds, Grounds, HasFault, IsRead, KindNeeds, PageNeeds, PagesNeed, SpellsEnd}

-- answers noted twice
pub notes_twice : (a b c : Option (List Answered)) (items more : List Answered) → GainsAll a b items → GainsAll b c more → GainsAll a c (items ++ more)
notes_twice None b c items more first second = subst (λ told. GainsAll told c more) first second
notes_twice (Some told) b c items more first second = subst (λ all. c ≡ Some all) (append_assoc told items more) (subst (λ told. GainsAll told c more) first second)

module _ (P : List ℕ → Type 0) (more : List Answered) where
  -- a reply that was there, or was added
  reply_among : (items : List Answered) → HasReply P items ⊎ HasReply P more → HasReply P (items ++ more)
  reply_among [] has = elim has [ inl none ↦ absurd none | inr added ↦ added ]
  reply_among (answer.Reply bytes ∷ items) has = elim has [
    | inl there ↦ elim there [ inl here ↦ inl here | inr later ↦ inr (reply_among items (inl later)) ]
    | inr added ↦ inr (reply_among items (inr added))
  ]
  reply_among (answer.Fault which found given ∷ items) has = reply_among items has

-- one of the replies has a property that follows from another
reply_has : (P Q : List ℕ → Type 0) → ((bytes : List ℕ) → P bytes → Q bytes) → (items : List Answered) → HasReply P items → HasReply Q items
reply_has P Q follows [] has = has
reply_has P Q follows (answer.Reply bytes ∷ items) has = elim has [ inl here ↦ inl (follows bytes here) | inr later ↦ inr (reply_has P Q follows items later) ]
reply_has P Q follows (answer.Fault which found given ∷ items) has = reply_has P Q follows items has

module _ (P : LinkFault → List (List ℕ) → Type 0) (more : List Answered) where
  -- a fault of an exchange that was there, or was added
  exchange_among : (items : List Answered) → HasExchangeFault P items ⊎ HasExchangeFault P more → HasExchangeFault P (items ++ more)
  exchange_among [] has = elim has [ inl none ↦ absurd none | inr added ↦ added ]
  exchange_among (answer.Reply bytes ∷ items) has = exchange_among items has
  exchange_among (answer.Fault call.Exchange found given ∷ items) has = elim has [
    | inl there ↦ elim there [ inl here ↦ inl here | inr later ↦ inr (exchange_among items (inl later)) ]
    | inr added ↦ inr (exchange_among items (inr added))
  ]
  exchange_among (answer.Fault which found given ∷ items) has = exchange_among items has

-- what pages need stands elsewhere too
module _ {A : Type 0} (spec : OperationSpec A) (statements : ℕ) (reply : List ℕ) (before now from to : ℕ) (items all : List Answered) (rises : Rose before now → Rose from to) (replies : (P : List ℕ → Type 0) → HasReply P items → HasReply P all)
    (lost : (P : LinkFault → List (List ℕ) → Type 0) → HasExchangeFault P items → HasExchangeFault P all) where
  page_elsewhere : (pages : List Page) (page : Page) → PageNeeds spec statements reply pages before now items page → PageNeeds spec statements reply pages from to all page
  page_elsewhere pages (Ok page) needs = replies (λ bytes. Spells page bytes) needs
  page_elsewhere pages (Err failure) needs = elim needs [
    | inl spelled ↦ inl (replies (λ bytes. ReadsResponse bytes (Err failure)) spelled)
    | inr other ↦ inr (elim other [
      | inl is_lost ↦ inl (rises is_lost.0, lost (λ found labels. IsFaultOf found labels may.None failure) is_lost.1)
      | inr lacks ↦ inr lacks
    ])
  ]

  pub pages_elsewhere : (pages : List Page) → PagesNeed spec statements reply before now items pages → PagesNeed spec statements reply from to all pages
  pages_elsewhere [] needs = tt
  pages_elsewhere (page ∷ pages) needs = (page_elsewhere pages page needs.0, pages_elsewhere pages needs.1)

-- what pages need
module _ {A : Type 0} (spec : OperationSpec A) (statements : ℕ) (reply : List ℕ) where
  -- before more answers
  pub pages_before : (before mid now : ℕ) (items more : List Answered) → mid ≤ now → (pages : List Page) → PagesNeed spec statements reply before mid items pages → PagesNeed spec statements reply before now (items ++ more) pages
  pages_before before mid now items more later =
      pages_elsewhere spec statements reply before mid before now items (items ++ more) (λ rose. omega (arith, rose, later)) (λ P has. reply_among P more items (inl has)) (λ P has. exchange_among P more items (inl has))

  -- a page needs the same behind others
  pub page_after : (before mid now : ℕ) (items more : List Answered) → before ≤ mid → (pages : List Page) (page : Page) → PageNeeds spec statements reply pages mid now more page → PageNeeds spec statements reply pages before now (items ++ more) page
  page_after before mid now items more later =
      page_elsewhere spec statements reply mid now before now more (items ++ more) (λ rose. omega (arith, rose, later)) (λ P has. reply_among P more items (inr has)) (λ P has. exchange_among P more items (inr has))

  -- since an earlier count
  pub pages_since : (before mid now : ℕ) (items : List Answered) → before ≤ mid → (pages : List Page) → PagesNeed spec statements reply mid now items pages → PagesNeed spec statements reply before now items pages
  pages_since before mid now items later =
      pages_elsewhere spec statements reply mid now before now items items (λ rose. omega (arith, rose, later)) (λ P has. has) (λ P has. has)

-- nothing was exchanged twice
pub early_twice : (items more : List Answered) → AllEarly items → AllEarly more → AllEarly (items ++ more)
early_twice [] more first second = second
early_twice (answer.Reply bytes ∷ items) more first second = absurd first
early_twice (answer.Fault call.Exchange found given ∷ items) more first second = absurd first
early_twice (answer.Fault which found given ∷ items) more first second = early_twice items more first second

module _ (retryability : Retryability) (setup : Option Setup) (found : LinkFault) (labels : LabelSet) (more : List Answered) where
  -- a fault that was there, or was added
  fault_among : (items : List Answered) → HasFault retryability setup found labels items ⊎ HasFault retryability setup found labels more → HasFault retryability setup found labels (items ++ more)
  fault_among [] has = elim has [ inl none ↦ absurd none | inr added ↦ added ]
  fault_among (answer.Reply bytes ∷ items) has = fault_among items has
  fault_among (answer.Fault which other given ∷ items) has = elim has [
    | inl there ↦ elim there [ inl here ↦ inl here | inr later ↦ inr (fault_among items (inl later)) ]
    | inr added ↦ inr (fault_among items (inr added))
  ]

-- what an end needs stands elsewhere too, where the count of faults rose there, and where its faults and replies are there
module _ {A : Type 0} (on : Grounds A) (before now from to : ℕ) (items all : List Answered) (rises : Rose before now → Rose from to)
    (faults : (found : LinkFault) (labels : LabelSet) → HasFault on.retryability on.setup found labels items → HasFault on.retryability on.setup found labels all)
    (replies : (P : List ℕ → Type 0) → HasReply P items → HasReply P all)
    (lost : (P : LinkFault → List (List ℕ) → Type 0) → HasExchangeFault P items → HasExchangeFault P all) where
  -- by the kind of its error
  kind_elsewhere : (labels : LabelSet) (why : ErrorKind) → KindNeeds on before now items labels why → KindNeeds on from to all labels why
  kind_elsewhere labels (kind.Io io) needs = (rises needs.0, faults (fault.Io io) labels needs.1)
  kind_elsewhere labels (kind.ConnectionPoolCleared message) needs = (rises needs.0, faults (fault.PoolCleared message) labels needs.1)
  kind_elsewhere labels (kind.ServerSelection message) needs = (rises needs.0, faults (fault.Selection message) labels needs.1)
  kind_elsewhere labels (kind.Authentication message) needs = (rises needs.0, faults (fault.Authentication message) labels needs.1)
  kind_elsewhere labels (kind.InvalidArgument message) needs = needs
  kind_elsewhere labels (kind.BsonSerialization refusal) needs = needs
  kind_elsewhere labels (kind.Internal message) needs = needs
  kind_elsewhere labels kind.SessionsNotSupported needs = needs
  kind_elsewhere labels kind.Memory needs = needs
  kind_elsewhere labels _ needs = absurd needs

  -- a reply that is read, or that spells an error, with its pages
  read_elsewhere : (bytes : List ℕ) → IsRead on before now items bytes → IsRead on from to all bytes
  read_elsewhere bytes read = record {
    statements = read.statements;
    first = read.first;
    pages = read.pages;
    alone = read.alone;
    told = pages_elsewhere on.spec read.statements bytes before now from to items all rises replies lost read.pages read.told;
    output = read.output;
    reads = read.reads;
  }

  spelled_elsewhere : (why : ErrorOutline) (bytes : List ℕ) → SpellsEnd on before now items why bytes → SpellsEnd on from to all why bytes
  spelled_elsewhere why bytes spelled = record {
    statements = spelled.statements;
    first = spelled.first;
    pages = spelled.pages;
    alone = spelled.alone;
    told = pages_elsewhere on.spec spelled.statements bytes before now from to items all rises replies lost spelled.pages spelled.told;
    bare = spelled.bare;
    reads = spelled.reads;
    other = spelled.other;
    connection_retryability = spelled.connection_retryability;
    kind_is = spelled.kind_is;
    labels_are = spelled.labels_are;
    source_is = spelled.source_is;
  }

  -- the same of each end
  end_elsewhere : (ended : Option ErrorOutline) → EndNeeds on before now items ended → EndNeeds on from to all ended
  end_elsewhere None needs = reply_has (IsRead on before now items) (IsRead on from to all) read_elsewhere all (replies (IsRead on before now items) needs)
  end_elsewhere (Some why) needs = elim needs [
    | inl by_kind ↦ inl (record { needs = kind_elsewhere why.labels why.kind by_kind.needs; no_source = by_kind.no_source })
    | inr other ↦ elim other [
      | inl spelled ↦ inr (inl (reply_has (SpellsEnd on before now items why) (SpellsEnd on from to all why) (spelled_elsewhere why) all (replies (SpellsEnd on before now items why) spelled)))
      | inr refused ↦ inr (inr refused)
    ]
  ]

module _ {A : Type 0} (on : Grounds A) (items more : List Answered) where
  -- what an end needs stands where the link answers more
  pub end_before : (before mid now : ℕ) (ended : Option ErrorOutline) → mid ≤ now → EndNeeds on before mid items ended → EndNeeds on before now (items ++ more) ended
  end_before before mid now ended later =
      end_elsewhere on before mid before now items (items ++ more) (λ rose. omega (arith, rose)) (λ found labels has. fault_among on.retryability on.setup found labels more items (inl has))
      (λ P has. reply_among P more items (inl has)) (λ P has. exchange_among P more items (inl has)) ended

  -- and where it had answered before
  pub end_after : (before mid now : ℕ) (ended : Option ErrorOutline) → before ≤ mid → EndNeeds on mid now more ended → EndNeeds on before now (items ++ more) ended
  end_after before mid now ended later =
      end_elsewhere on mid now before now more (items ++ more) (λ rose. omega (arith, rose)) (λ found labels has. fault_among on.retryability on.setup found labels more items (inr has))
      (λ P has. reply_among P more items (inr has)) (λ P has. exchange_among P more items (inr has)) ended

  -- so does what an end needs where the numbers are at their end
  pub last_after : (ended : Option ErrorOutline) → AllEarly items → EndAtLast on more ended → EndAtLast on (items ++ more) ended
  last_after None early ends = ends
  last_after (Some why) early ends = (early_twice items more early ends.0, ends.1)
