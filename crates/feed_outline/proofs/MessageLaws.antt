-- What comes of the tokens of a document.
use Rattle.std.proofs.Common.{◌≡◌, ℕ, Bool, true, false, List, [], Option, Some, None, Result, Ok, Err, refl, sym, ap, ◌∙◌, append-nil, append_assoc, ◌++◌, ◌∷◌, fold, subst}
use Rattle.std.specs.Prelude.{IfOk, IfErr, ◌&&◌}
use Rattle.std.specs.List.{flat_map, list_all}
use Rattle.std.proofs.lemmas.Bool.{and_parts}
use Rattle.std.proofs.lemmas.List.Concat.{flat_map-cons}
use Rattle.std.proofs.lemmas.List.Folds.{list_all-append}
use Rattle.std.proofs.lemmas.Grind.{flat_map-append}
use Rattle.feed_outline.specs.Names.{Word}
use Rattle.feed_xml.specs.declared.fault.Fault.{Fault as DocumentFault}
use Rattle.feed_xml.specs.declared.fault.Fault.TheVariants.{Malformed, NotText, TooDeep, TooLong, LargeTag, Refused, UnknownEncoding, Read, Memory}
use Rattle.feed_xml.specs.Grammar.{Token, is_token, spelling}
use Rattle.feed_xml.specs.Faults.{GoesTo, Tells}
use Rattle.feed_xml.specs.Documents.{IsDocument}
use Rattle.feed_xml.specs.EncodingNames.{IsTextOf, OfText}
use Rattle.feed_xml.specs.Limits.{BeginsWith, Bound, Follows, Meets}
use Rattle.feed_xml.specs.Sections.{AreIn, section_behind}
use Rattle.feed_xml.specs.Tree.{Content}
use Rattle.feed_xml.specs.Trees.{IsTree}
use Rattle.feed_outline.specs.declared.dialect.Wrong.{Wrong}
use Rattle.feed_outline.specs.declared.message_reading.Fault.TheVariants.{Document}
use Rattle.feed_outline.specs.declared.message_reading.Stopped.{Stopped}
use Rattle.feed_outline.specs.Dialect.{Dialect}
use Rattle.feed_outline.specs.Nodes.{is_known, nodes_in}
use Rattle.feed_outline.specs.Outline.{Line, parts_of}
use Rattle.feed_outline.specs.Sizes.{has_large}
use Rattle.feed_outline.specs.private.Feed.{Feed, feed, first_feed, fits, takes_more, takes_more_with}
use Rattle.feed_outline.specs.Roots.{root_of}
use Rattle.feed_outline.specs.Faults.{Explains, IsRefusedRoot, IsTooLarge, IsUnknown}
use Rattle.feed_outline.specs.private.Reasons.{RefusesReference, RefusesRoot}
use Rattle.feed_outline.specs.private.Finishing.{finished, finished_with}
use Rattle.feed_outline.specs.Message.{IsMessage}
use Rattle.feed_xml.proofs.PlaceLaws.{tails_in}
use Rattle.feed_xml.proofs.KindLaws.{by_root}
use Rattle.feed_outline.proofs.FeedLaws.{misc_root, quiet_prolog, tree_feeds}
use Rattle.feed_outline.proofs.RefusalLaws.{Finds, finds_root, finds_unknown, known_all, roots}
use Rattle.feed_outline.proofs.TreeLaws.{is_large, tree_kept}

-- a message was read
abbrev pub Reads : (vocabulary : List Word) {T : Type 0} → (T → List Line → T) → T → Option (List ℕ) → T → Type 0
Reads vocabulary after taker bytes taken =
    (text : List ℕ) × (d : Dialect) × (inside : Content) × IsTextOf bytes text × IsMessage vocabulary text d inside × (taken ≡ fold after taker (parts_of (nodes_in vocabulary d [] inside)))

-- what a call gave is one of the two
pub record Comes (vocabulary : List Word) {T : Type 0} (after : T → List Line → T) (taker : T) (bytes : Option (List ℕ)) (result : Result T (Stopped T)) : Type 0 where
  pub ok : IfOk result (Reads vocabulary after taker bytes)
  pub refused : IfErr result (λ s. Explains vocabulary bytes s.fault)

-- a text begins with all of its tokens
all_tokens : (bytes : Option (List ℕ)) (text : List ℕ) (tokens : List Token) → IsTextOf bytes text → IsDocument text tokens → OfText (BeginsWith tokens) bytes
all_tokens None text tokens is document = tt
all_tokens (Some b) text tokens is document =
    (text, is, ([], document.spelled ∙ sym (append-nil (flat_map spelling tokens)), document.are.each, tails_in tokens _ _ document.are.apart, tt))

-- what holds of tokens holds of a text that begins with them
holds_there : (Limit : Bound) (tokens : List Token) (bytes : Option (List ℕ)) → ((rest : List ℕ) → Limit tokens rest) → OfText (BeginsWith tokens) bytes → OfText (Meets Limit tokens) bytes
holds_there Limit tokens None holds begins = tt
holds_there Limit tokens (Some b) holds begins =
    let m = begins.2 in (begins.0, begins.1, (m.0, m.1, m.2, m.3, holds m.0))

-- ---- tokens that are refused

-- some of the tokens stand in the sections that those before leave open
front_in : (section : Option ℕ) (before behind : List Token) → AreIn section (before ++ behind) → AreIn section before
front_in section [] behind h = tt
front_in section (token ∷ before) behind h = (h.0, front_in (section_behind token) before behind h.1)

-- a text that begins with tokens begins with some of them, and then comes the next one
begins_before : (Limit : Bound) (before behind tokens : List Token) (token : Token) (bytes : Option (List ℕ)) → tokens ≡ before ++ token ∷ behind → ((rest : List ℕ) → Follows token rest → Limit before rest)
    → OfText (BeginsWith tokens) bytes → OfText (Meets Limit before) bytes
begins_before Limit before behind tokens token None parts holds begins = tt
begins_before Limit before behind tokens token (Some b) parts holds begins =
    let text = begins.0 in
    let rest = begins.2.0 in
    let later = flat_map spelling behind ++ rest in
    let spelled : flat_map spelling tokens ≡ flat_map spelling before ++ (spelling token ++ flat_map spelling behind) =
    ap (flat_map spelling) parts ∙ flat_map-append spelling before (token ∷ behind) ∙ ap (λ (l : List ℕ). flat_map spelling before ++ l) (flat_map-cons spelling token behind) in
    let whole : text ≡ flat_map spelling before ++ (spelling token ++ later) =
    begins.2.1 ∙ ap (λ (l : List ℕ). l ++ rest) spelled ∙ append_assoc (flat_map spelling before) (spelling token ++ flat_map spelling behind) rest
    ∙ ap (λ (l : List ℕ). flat_map spelling before ++ l) (append_assoc (spelling token) (flat_map spelling behind) rest) in
    let each : (list_all is_token before && list_all is_token (token ∷ behind)) ≡ true =
    sym (list_all-append is_token before (token ∷ behind)) ∙ ap (list_all is_token) (sym parts) ∙ begins.2.2 in
    let good = and_parts _ _ each in
    let follows : Follows token (spelling token ++ later) = (later, refl, (and_parts _ _ good.1).0) in
    let within = front_in None before (token ∷ behind) (subst (AreIn None) parts begins.2.3) in
    (text, begins.1, (spelling token ++ later, whole, good.0, within, holds (spelling token ++ later) follows))

reason_of : (P : List Token → Token → Type 0) (Limit : Bound) → ((before : List Token) (token : Token) (rest : List ℕ) → P before token → Follows token rest → Limit before rest)
    → (bytes : Option (List ℕ)) (tokens : List Token) → OfText (BeginsWith tokens) bytes → Finds P tokens → GoesTo bytes Limit
reason_of P Limit holds bytes tokens begins h =
    (h.before, begins_before Limit h.before h.behind tokens h.token bytes h.parts (λ rest follows. holds h.before h.token rest h.holds follows) begins)

at_root : (wrong : Wrong) (before : List Token) (token : Token) (rest : List ℕ) → RefusesRoot wrong before token → Follows token rest → IsRefusedRoot wrong before rest
at_root wrong before token rest h follows = (h.0, (token, follows, h.1))

at_reference : (before : List Token) (token : Token) (rest : List ℕ) → RefusesReference before token → Follows token rest → IsUnknown before rest
at_reference before token rest h follows = (token, follows, h)

-- what comes of tokens of which no more are taken
pub refuses : (vocabulary : List Word) {T : Type 0} (after : T → List Line → T) (taker : T) (bytes : Option (List ℕ)) (tokens : List Token) → OfText (BeginsWith tokens) bytes
    → takes_more (fold (feed vocabulary after) (first_feed taker) tokens) ≡ false → Comes vocabulary after taker bytes (finished (fold (feed vocabulary after) (first_feed taker) tokens))
refuses vocabulary {T = T} after taker bytes tokens begins refused = go f.root refl f.known refl (fits f.child) refl refused
  where
    f : Feed T
    f = fold (feed vocabulary after) (first_feed taker) tokens

    root_is : f.root ≡ root_of tokens
    root_is = roots vocabulary after (first_feed taker) tokens

    known_is : f.known ≡ list_all is_known tokens
    known_is = known_all vocabulary after taker tokens

    go : (o : Option (Result Dialect Wrong)) → f.root ≡ o → (k : Bool) → f.known ≡ k → (small : Bool) → fits f.child ≡ small → takes_more_with o k small ≡ false
        → Comes vocabulary after taker bytes (finished_with o k small f)
    go None e k known small size r = absurd cc
    go (Some (Err w)) e k known small size r = record {
      ok = tt;
      refused = reason_of (RefusesRoot w) (IsRefusedRoot w) (at_root w) bytes tokens begins (finds_root tokens w (sym root_is ∙ e));
    }
    go (Some (Ok d)) e true known true size r = absurd cc
    go (Some (Ok d)) e true known false size r = record {
      ok = tt;
      refused = (tokens, holds_there (IsTooLarge vocabulary) tokens bytes (λ rest. is_large vocabulary after taker d tokens rest (sym root_is ∙ e) (sym known_is ∙ known) size) begins);
    }
    go (Some (Ok d)) e false known small size r = record {
      ok = tt;
      refused = reason_of RefusesReference IsUnknown at_reference bytes tokens begins (finds_unknown tokens (sym known_is ∙ known));
    }

-- ---- a document

takes_is : {T : Type 0} (f : Feed T) (o : Option (Result Dialect Wrong)) (k small : Bool) → f.root ≡ o → f.known ≡ k → fits f.child ≡ small → takes_more f ≡ takes_more_with o k small
takes_is f o k small e known size =
    ap (λ r. takes_more_with r f.known (fits f.child)) e ∙ ap (λ b. takes_more_with o b (fits f.child)) known ∙ ap (λ b. takes_more_with o k b) size

finished_is : {T : Type 0} (f : Feed T) (o : Option (Result Dialect Wrong)) (k small : Bool) → f.root ≡ o → f.known ≡ k → fits f.child ≡ small → finished f ≡ finished_with o k small f
finished_is f o k small e known size =
    ap (λ r. finished_with r f.known (fits f.child) f) e ∙ ap (λ b. finished_with o b (fits f.child) f) known ∙ ap (λ b. finished_with o k b f) size

-- a document has a root
has_root : (tokens : List Token) (name : List ℕ) (inside : Content) → IsTree tokens name inside → root_of tokens ≡ None → ⊥
has_root tokens name inside tree e =
    by_root name inside (λ root. root_of (root ++ tree.behind) ≡ None → ⊥) (λ n attributes space tokens r e. cc) (λ n attributes space tokens r e. cc) tree.root tree.is_root (sym (ap root_of tree.parts ∙ misc_root tree.before (tree.root ++ tree.behind) (quiet_prolog tree.before tree.prolog)) ∙ e)

-- what comes of a document that was read to its end
pub comes : (vocabulary : List Word) {T : Type 0} (after : T → List Line → T) (taker : T) (bytes : Option (List ℕ)) (text : List ℕ) (tokens : List Token) (name : List ℕ) (inside : Content)
    → IsTextOf bytes text → IsDocument text tokens → IsTree tokens name inside
    → Comes vocabulary after taker bytes (finished (fold (feed vocabulary after) (first_feed taker) tokens))
comes vocabulary {T = T} after taker bytes text tokens name inside is document tree = go f.root refl f.known refl (fits f.child) refl (refuses vocabulary after taker bytes tokens (all_tokens bytes text tokens is document))
  where
    f : Feed T
    f = fold (feed vocabulary after) (first_feed taker) tokens

    root_is : f.root ≡ root_of tokens
    root_is = roots vocabulary after (first_feed taker) tokens

    taken : (d : Dialect) → root_of tokens ≡ Some (Ok d) → list_all is_known tokens ≡ true → fits f.child ≡ true → (o : Bool) → has_large (nodes_in vocabulary d [] inside) ≡ o
        → Reads vocabulary after taker bytes f.taker
    taken d e known size false small = (
      text,
      d,
      inside,
      is,
      record {
        tokens = tokens;
        name = name;
        document = document;
        tree = tree;
        root = e;
        known = known;
        fits = small;
      },
      ap (λ g. g.taker) (tree_feeds vocabulary after taker d tokens name inside tree e known small),
    )
    taken d e known size true large = absurd (cc (sym size ∙ tree_kept vocabulary after taker d tokens name inside tree e known large))

    by_refusal : (o : Option (Result Dialect Wrong)) → f.root ≡ o → (k : Bool) → f.known ≡ k → (small : Bool) → fits f.child ≡ small → takes_more_with o k small ≡ false
        → (takes_more f ≡ false → Comes vocabulary after taker bytes (finished f)) → Comes vocabulary after taker bytes (finished_with o k small f)
    by_refusal o e k known small size r refused =
        subst (Comes vocabulary after taker bytes) (finished_is f o k small e known size) (refused (takes_is f o k small e known size ∙ r))

    go : (o : Option (Result Dialect Wrong)) → f.root ≡ o → (k : Bool) → f.known ≡ k → (small : Bool) → fits f.child ≡ small
        → (takes_more f ≡ false → Comes vocabulary after taker bytes (finished f)) → Comes vocabulary after taker bytes (finished_with o k small f)
    go None e k known small size refused = absurd (has_root tokens name inside tree (sym root_is ∙ e))
    go (Some (Err w)) e k known small size refused = by_refusal (Some (Err w)) e k known small size refl refused
    go (Some (Ok d)) e true known true size refused =
        let root = sym root_is ∙ e in
        record { ok = taken d root (sym (known_all vocabulary after taker tokens) ∙ known) size (has_large (nodes_in vocabulary d [] inside)) refl; refused = tt }
    go (Some (Ok d)) e true known false size refused = by_refusal (Some (Ok d)) e true known false size refl refused
    go (Some (Ok d)) e false known small size refused = by_refusal (Some (Ok d)) e false known small size refl refused

-- a document that was not read to its end, and not for the sink
pub document_explained : (vocabulary : List Word) {T : Type 0} (after : T → List Line → T) (bytes : Option (List ℕ)) (old new : Feed T) (fault : DocumentFault) → (fault ≡ Refused → ⊥)
    → Tells (feed vocabulary after) bytes old new takes_more fault → Explains vocabulary bytes (Document fault)
document_explained vocabulary after bytes old new Malformed other told = told
document_explained vocabulary after bytes old new NotText other told = told
document_explained vocabulary after bytes old new TooDeep other told = told
document_explained vocabulary after bytes old new TooLong other told = told
document_explained vocabulary after bytes old new LargeTag other told = told
document_explained vocabulary after bytes old new Refused other told = absurd (other refl)
document_explained vocabulary after bytes old new (UnknownEncoding name) other told = told
document_explained vocabulary after bytes old new Read other told = tt
document_explained vocabulary after bytes old new Memory other told = tt
