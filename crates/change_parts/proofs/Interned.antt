-- A name that gets its number keeps a store, its nodes and its edges.
use Rattle.std.specs.Cmp.Lexicographic.{pointwise}
use Rattle.std.specs.List.{list_any}
use Rattle.std.specs.Prelude.{Contains}
use Rattle.std.proofs.Common.{◌≡◌, ◌≢◌, ℕ, ◌-◌, nat_eq, Bool, true, false, cond, List, [], ◌∷◌, ◌++◌, length, sym, ap}
use Rattle.std.proofs.Common.{◌∙◌, subst, inl, inr, ⊎_elim, arith, refl}
use Rattle.std.proofs.lemmas.List.{length-append}
use Rattle.plain_graph.specs.Graph.{UsesName}
use Rattle.plain_graph.specs.Names.{IsShortName}
use Rattle.rec_bytes.specs.Format as format
use Rattle.rec_bytes.specs.RecordFiles.{meta_key_of}
use Rattle.rec_bytes.specs.Space.{SameButReads, State, WritesOnly}
use Rattle.store_rules.specs.Rules.{IsWellFormed}
use Rattle.store_rules.specs.Views.{Records, high}
use Rattle.store_rules.specs.Writes.{WritesAtMost}
use Rattle.store_rules.proofs.NameMade.{IsNamed, edges_stay, name_well, names_more, nodes_stay}
use Rattle.name_store.specs.Interning.{interned, named}
use Rattle.name_store.specs.NameRecord.{name_key, name_record}
use Rattle.name_store.proofs.FirstNames.{length-names_of}
use Rattle.name_store.proofs.NamedStore.{IsNamed-named, interned-known, interned-new}
use Rattle.change_parts.specs.Rooms.{KeepsElementMetas}
use Rattle.change_parts.specs.Store.{IsMidway, KeepsElements}
use Rattle.store_rules.proofs.IndexNames.{named_indexed, named_indexes}
use Rattle.store_rules.proofs.WriteLaws.{among_metas, more_written, none_written, some_written}

pub keeps_same : (s : State) (names : List (List ℕ)) → IsMidway s names → KeepsElements s s names
keeps_same s names store = record { store = store; shape = refl; nodes = refl; edges = refl; indexes = refl; keeps = λ are. are }

pub keeps_then : (s t u : State) (one two : List (List ℕ)) → KeepsElements s t one → KeepsElements t u two → KeepsElements s u two
keeps_then s t u one two h k = record {
  store = k.store;
  shape = k.shape ∙ h.shape;
  nodes = k.nodes ∙ h.nodes;
  edges = k.edges ∙ h.edges;
  indexes = k.indexes
      ∙ h.indexes;
  keeps = λ are. k.keeps (h.keeps are);
}

named-shape : (s : State) (id : ℕ) (text : List ℕ) → (named s id text).shape ≡ s.shape
unfolding named
named-shape s id text = refl

pub shape_interned : (s t : State) (names : List (List ℕ)) (text : List ℕ) → t ≡ interned s names text → t.shape ≡ s.shape
shape_interned s t names text is = ap (λ (z : State). z.shape) is ∙ by (list_any (pointwise nat_eq text) names)
  where
    by : (b : Bool) → (cond b s (named s (length names) text)).shape ≡ s.shape
    by true = refl
    by false = named-shape s (length names) text

-- a name that is new goes to the end
keeps_named : (s : State) (old : List (List ℕ)) (text : List ℕ) → IsMidway s old → IsShortName text → ¬ Contains old text → length old ≢ format.most_names
    → KeepsElements s (named s (length old) text) (old ++ text ∷ [])
keeps_named s old text store short lacks few =
    let count = high s.records format.names_file in
    let long : length old ≡ count = ap length store.names ∙ length-names_of s.records in
    let meta = store.store.ranges.metas format.names_file refl in
    let most = meta.high in
    let v : Records = (named s count text).records in
    let there : IsNamed s.records v s.shape (name_record text) text
    = IsNamed-named s s.shape text meta (store.store.kept format.names_file refl refl) (omega (arith, few, long, most)) short
    (λ k. lacks (subst (λ xs. Contains xs text) (sym store.names) k)) in
    subst (λ n. KeepsElements s (named s n text) (old ++ text ∷ [])) (sym long) (record {
      store = record {
        store = subst (IsWellFormed v) (sym (named-shape s count text)) (name_well s.records v s.shape (name_record text) text there store.store);
        names = ap (λ xs. xs ++ text ∷ []) store.names ∙ sym (names_more s.records v s.shape (name_record text) text there store.store);
      };
      shape = named-shape s count text;
      nodes = nodes_stay s.records v s.shape (name_record text) text there store.store;
      edges = edges_stay s.records v s.shape (name_record text) text there store.store;
      indexes = named_indexes s.records v s.shape (name_record text) text there store.store.defined;
      keeps = named_indexed s.records v s.shape (name_record text) text there;
    })

-- no name touches what the meta records of other files say
pub metas_same : (s : State) → KeepsElementMetas s s
metas_same s = record { nodes = refl; edges = refl; properties = refl; blocks = refl }

pub metas_then : {s t u : State} → KeepsElementMetas s t → KeepsElementMetas t u → KeepsElementMetas s u
metas_then h k = record { nodes = k.nodes ∙ h.nodes; edges = k.edges ∙ h.edges; properties = k.properties ∙ h.properties; blocks = k.blocks ∙ h.blocks }

metas_named : (s : State) (id : ℕ) (text : List ℕ) → KeepsElementMetas s (named s id text)
unfolding named
metas_named s id text = record { nodes = refl; edges = refl; properties = refl; blocks = refl }

pub metas_interned : (s t : State) (old new : List (List ℕ)) (text : List ℕ) → t ≡ interned s old text → UsesName old text new → KeepsElementMetas s t
metas_interned s t old new text is uses = ⊎_elim
    (λ (k : Contains old text × (new ≡ old)). subst (KeepsElementMetas s) (sym (is ∙ interned-known s old text k.0)) (metas_same s))
    (λ (k : (¬ Contains old text) × (new ≡ old ++ text ∷ [])). subst (KeepsElementMetas s) (sym (is ∙ interned-new s old text k.0)) (metas_named s (length old)
    text)) uses

pub keeps_interned : (s t : State) (old new : List (List ℕ)) (text : List ℕ) → t ≡ interned s old text → UsesName old text new → IsShortName text
    → (¬ Contains old text → length old ≢ format.most_names) → IsMidway s old → KeepsElements s t new
keeps_interned s t old new text is uses short few store = ⊎_elim
    (λ (k : Contains old text × (new ≡ old)). subst (λ z. KeepsElements s z new) (sym (is ∙ interned-known s old text k.0)) (subst (KeepsElements s s) (sym k.1)
    (keeps_same s old store)))
    (λ (k : (¬ Contains old text) × (new ≡ old ++ text ∷ [])). subst (λ z. KeepsElements s z new) (sym (is ∙ interned-new s old text k.0))
    (subst (KeepsElements s (named s (length old) text)) (sym k.1) (keeps_named s old text store short k.0 (few k.0)))) uses

-- whatever comes of it, one record is written at most
pub one_written : (s t : State) (number : ℕ) → WritesOnly s t (name_key number ∷ meta_key_of format.names_file ∷ []) → WritesAtMost 1 s t
one_written s t number = some_written s t (name_key number ∷ []) (name_key number ∷ meta_key_of format.names_file ∷ []) (refl, tt)
    (λ q i. ⊎_elim (λ e. inl e) (λ j. inr (⊎_elim (λ e. among_metas format.names_file q refl e) (λ e. absurd e) j)) i)

-- a name that is new has its record written
pub name_written : (s t : State) (old new : List (List ℕ)) (text : List ℕ) → UsesName old text new → (Contains old text → t ≡ s)
    → WritesOnly s t (name_key (length old) ∷ meta_key_of format.names_file ∷ []) → WritesAtMost (length new - length old) s t
name_written s t old new text uses stays writes = ⊎_elim
    (λ (k : Contains old text × (new ≡ old)). more_written (omega arith) (none_written s t (subst (SameButReads s) (sym (stays k.0)) refl)))
    (λ (k : (¬ Contains old text) × (new ≡ old ++ text ∷ [])). more_written (let e = ap length k.1 in omega (arith, length-append old (text ∷ [])))
    (one_written s t (length old) writes)) uses
