-- One index: what its check found makes it right, or names a record that breaks the rule.
use Rattle.std.proofs.Common.{◌≡◌, ℕ, true, false, List, map, inr, sym, ap, ◌∙◌, subst, Option, None, Some, refl}
use Rattle.std.proofs.lemmas.Bool.{true≢false}
use Rattle.rec_bytes.specs.declared.damage.Damage.{Damage}
use Rattle.rec_bytes.specs.declared.shape.Shape.{Shape}
use Rattle.rec_bytes.specs.Format as format
use Rattle.record_lists.specs.Deciding.{DecidesRule}
use Rattle.store_rules.specs.Breaking.{damage}
use Rattle.store_rules.specs.Chains.{In}
use Rattle.store_rules.specs.IndexBreaking.{IndexBreaks, IsInBucket}
use Rattle.store_rules.specs.IndexBreaking.IndexBreaks.{WrongDefinition, WrongEntry, WrongNode}
use Rattle.store_rules.specs.Indexes.{AreIndexed, entry_in, entry_node, indexed_key, indexed_label, node_value, wanted_in}
use Rattle.store_rules.specs.Properties.{AreOnce}
use Rattle.store_rules.specs.Views.{Records}
use Rattle.store_rules.proofs.IndexBreaches.{not_indexed}
use Rattle.store_rules.proofs.IndexParts.{bucket_same}
use Rattle.index_check.specs.Entries.{AreEntriesTo, LacksBucket}
use Rattle.index_check.specs.Indexing.{BreaksIndexRule, DecidesIndexRule, IsGiven, IsRight}
use Rattle.index_check.specs.Nodes.{AreNodesRight, IsTwice, IsWrongNode, said_by}
use Rattle.index_check.specs.Nodes.IsWrongNode.{Lacking, Twice}
use Rattle.index_check.specs.declared.definitions.Definition.{Definition}
use Rattle.index_check.proofs.NodeLaws.{in_map, map_in, once_apart, twice_two}

-- a damage that was named breaks the rule
pub breaks_by : (records : Records) (answer : Damage) (file id : ℕ) → answer ≡ damage file id 8 → IndexBreaks records (damage file id 8)
    → BreaksIndexRule records answer
breaks_by records answer file id is breaks = record { rule_is = ap (λ (d : Damage). d.rule) is; breaks = subst (IndexBreaks records) (sym is) breaks }

module _ (records : Records) (d : Definition) (given : IsGiven records d) where
  label_is : d.label ≡ indexed_label records d.id
  label_is = ap (λ (z : Definition). z.label) given.is

  key_is : d.key ≡ indexed_key records d.id
  key_is = ap (λ (z : Definition). z.key) given.is

  pub said-is : (x : ℕ) → said_by records d x ≡ entry_in records d.id x
  said-is x = λ i. record { label = label_is i; key = key_is i; node = entry_node records x; hash = (entry_in records d.id x).hash }

  value-is : (n : ℕ) → node_value records d.label d.key n ≡ node_value records (indexed_label records d.id) (indexed_key records d.id) n
  value-is n = λ i. node_value records (label_is i) (key_is i) n

  -- a definition without one of its buckets
  pub lacks_breaks : LacksBucket records d.id → IndexBreaks records (damage format.index_file d.id 8)
  lacks_breaks h = WrongDefinition d.id given.among (λ k. let l = k.buckets h.bucket h.low in h.none l.0 l.1)

  module _ (entries : List ℕ) (are : AreEntriesTo records d.id 180 entries) where
    -- each entry is in a bucket, and what is in a bucket is an entry
    pub bucket_of_entry : (x : ℕ) → In x entries → (b : ℕ) × IsInBucket records d.id b x
    bucket_of_entry x i = let e = are.only x i in (
      e.bucket,
      record {
        definition = given.among;
        low = e.below;
        members = e.members;
        list = e.list;
        member =
            e.member;
      },
    )

    entry_of_bucket : (b x : ℕ) → IsInBucket records d.id b x → In x entries
    entry_of_bucket b x at =
        let e = are.each b at.low in
        e.all x (subst (In x) (bucket_same records d.id b at.members e.members at.list e.list) at.member)

    -- an entry that isn't wanted
    pub unwanted_breaks : (x : ℕ) → In x entries → wanted_in records (said_by records d x) ≡ false → IndexBreaks records (damage format.index_file x 8)
    unwanted_breaks x i none = WrongEntry x (λ k. let at = bucket_of_entry x i in true≢false (sym (k.wanted d.id at.0 at.1) ∙ ap (wanted_in records)
        (sym (said-is x)) ∙ none))

    module _ (nodes : List ℕ) (nodes_are : nodes ≡ map (entry_node records) entries) where
      -- a node that has two entries, or none
      pub wrong_breaks : (n : ℕ) → IsWrongNode records d nodes n → IndexBreaks records (damage format.nodes_file n 8)
      wrong_breaks n (Twice h) = WrongNode n (λ k.
          let t = twice_two (entry_node records) n entries are.once (subst (IsTwice n) nodes_are h) in
          let one = bucket_of_entry t.one t.member in
          let other = bucket_of_entry t.other t.also in
          t.apart (k.once d.id one.0 t.one other.0 t.other one.1 other.1 t.is t.also_is))
      wrong_breaks n (Lacking has out) = WrongNode n (λ k.
          let e = k.has d.id has.value given.among (sym (value-is n) ∙ has.is) in
          out (subst (In n) (sym nodes_are) (subst (λ z. In z (map (entry_node records) entries)) e.node (in_map (entry_node records) e.entry entries
          (entry_of_bucket e.bucket e.entry e.there)))))

      -- nothing is wrong
      pub right_of : ((x : ℕ) → In x entries → wanted_in records (said_by records d x) ≡ true) → AreNodesRight records d nodes → IsRight records d.id
      right_of wanted right = record {
        wanted = λ b x at. ap (wanted_in records) (sym (said-is x)) ∙ wanted x (entry_of_bucket b x at);
        has = λ n value is.
            let r = map_in (entry_node records) n entries (subst (In n) nodes_are (right.all n (record { value = value; is = value-is n ∙ is }))) in
            let at = bucket_of_entry r.0 r.1 in
            record { bucket = at.0; entry = r.0; there = at.1; node = r.2 };
        once = λ b x c y at too same. once_apart (entry_node records) entries (subst AreOnce nodes_are right.once) x y (entry_of_bucket b x at)
            (entry_of_bucket c y too) same;
      }

-- the decision is one of a rule of the store
pub decides : (records : Records) (shape : Shape) (found : Option Damage) → DecidesIndexRule records found → DecidesRule records shape 8 found
decides records shape None h = h
decides records shape (Some d) h = record { rule_is = h.rule_is; breaks = inr h.breaks }

-- where the rule is kept, no record is named
pub never_broken : (records : Records) (found : Option Damage) → DecidesIndexRule records found → AreIndexed records (wanted_in records) → found ≡ None
never_broken records None h ix = refl
never_broken records (Some d) h ix = absurd (not_indexed records d h.breaks ix)
