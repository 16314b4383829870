-- A new store meets all rules, and its graph is empty, whatever records its own are laid over.
use Rattle.std.proofs.Common.{◌≡◌, ℕ, ◌<◌, Bool, true, false, nat_eq, cond, ◌&&◌, Option, None, Some, [], length, sym, ap, ◌∙◌, subst, inl, inr, arith, refl}
use Rattle.std.proofs.lemmas.Bool.{true≢false}
use Rattle.plain_graph.specs.Graph.{empty_graph}
use Rattle.rec_bytes.specs.declared.meta.Meta.{Meta}
use Rattle.rec_bytes.specs.declared.shape.Shape.{Shape}
use Rattle.rec_bytes.specs.declared.record.Rec.{Rec}
use Rattle.rec_bytes.specs.Creation.{creation_pairs, own_key}
use Rattle.rec_bytes.specs.Format as format
use Rattle.rec_bytes.specs.Meta.{IsMetaInRange, empty_meta, first_meta}
use Rattle.rec_bytes.specs.Meta as metas
use Rattle.rec_bytes.specs.Record.{field, zeros_from}
use Rattle.rec_bytes.specs.RecordFiles.{is_meta_file, meta_key_of}
use Rattle.rec_bytes.specs.Shape.{is_allowed, shape_of_record}
use Rattle.rec_bytes.specs.Space.{laid_over, meta_in}
use Rattle.rec_bytes.proofs.CreationPairs.{IsMetaInRange-empty, find_pair-creation_meta, shape_of_record-new, first_meta-says, version_of-new}
use Rattle.rec_bytes.proofs.Spaces.{laid_over-at}
use Rattle.store_rules.specs.Graph.{edge_of, graph_of, indexes_from, node_of}
use Rattle.store_rules.specs.Rows.{collect, ids}
use Rattle.store_rules.specs.Indexes.{HasNoIndex}
use Rattle.store_rules.specs.Rules.{AreHeld, Head, IsListed, IsSplit, IsWellFormed, KeepsProperties, Owns, StandsAt, block_owner, node_first, property_owner}
use Rattle.store_rules.specs.Rules.{rel_first}
use Rattle.store_rules.specs.Views.{Records, group_at, group_in, high, is_live, kind_at, node_at, node_in, rec_at, rel_at, rel_in, text_of}
use Rattle.store_rules.proofs.MetaLaws.{meta_of_reused}
use Rattle.store_rules.proofs.ViewLaws.{kind_high, live_false, row_none}

module _ (before : Records) (shape : Shape) where
  abbrev new : Records
  new = laid_over before (creation_pairs shape)

  meta-new : (file : ℕ) → is_meta_file file ≡ true → new (meta_key_of file) ≡ first_meta file
  meta-new file is = laid_over-at before (creation_pairs shape) (meta_key_of file) (first_meta file) (find_pair-creation_meta shape file is)

  meta_in-made : (file : ℕ) → is_meta_file file ≡ true → meta_in new file ≡ empty_meta
  meta_in-made file is = ap (λ (r : Rec). metas.meta_of r) (meta-new file is) ∙ first_meta-says file

  own-new : is_allowed shape ≡ true → shape_of_record (new own_key) ≡ Some shape
  own-new allowed = shape_of_record-new shape allowed

  mark : (file : ℕ) → is_meta_file file ≡ true → high new file ≡ 0
  mark file is = ap (λ (m : Meta). m.high) (meta_in-made file is)

  nothing_low : (file x : ℕ) → is_meta_file file ≡ true → x < high new file → ⊥
  nothing_low file x is lt = let e = mark file is in absurd (omega arith)

  none_used : (file x : ℕ) → is_meta_file file ≡ true → kind_at new file x ≡ 0
  none_used file x is = let e = mark file is in kind_high (high new file) (rec_at new file x) x (omega arith)

  no_node : (x : ℕ) → node_at new x ≡ None
  no_node x = row_none (kind_at new format.nodes_file x) (node_in (rec_at new format.nodes_file x) x) (none_used format.nodes_file x refl)

  no_rel : (x : ℕ) → rel_at new x ≡ None
  no_rel x = row_none (kind_at new format.relationships_file x) (rel_in (rec_at new format.relationships_file x) x) (none_used format.relationships_file x refl)

  no_group : (x : ℕ) → group_at new x ≡ None
  no_group x = row_none (kind_at new format.groups_file x) (group_in (rec_at new format.groups_file x) x) (none_used format.groups_file x refl)

  not_some : {E : Type 0} (o : Option E) (e : E) → o ≡ None → o ≡ Some e → ⊥
  not_some o e none some = absurd (let z = sym none ∙ some in cc)

  no_owner : (file x : ℕ) → property_owner (node_at new) (rel_at new) file x ≡ None
  no_owner file x = by (nat_eq file format.nodes_file) (nat_eq file format.relationships_file) (ap node_first (no_node x)) (ap rel_first (no_rel x))
    where
      by : (a b : Bool) → node_first (node_at new x) ≡ None → rel_first (rel_at new x) ≡ None
          → cond a (node_first (node_at new x)) (cond b (rel_first (rel_at new x)) None) ≡ None
      by true b p q = p
      by false true p q = q
      by false false p q = refl

  no_block_owner : (file x : ℕ) → block_owner (kind_at new format.properties_file) (rec_at new format.properties_file) file x ≡ None
  no_block_owner file x = by (nat_eq file format.properties_file) (ap (λ k. nat_eq k format.text_in_blocks) (none_used format.properties_file x refl))
    where
      by : (a : Bool) → nat_eq (kind_at new format.properties_file x) format.text_in_blocks ≡ false
          → cond (a && nat_eq (kind_at new format.properties_file x) format.text_in_blocks)
          (Some (field 4 (rec_at new format.properties_file x) format.property_first_block)) None ≡ None
      by true e = rw e refl
      by false e = refl

  not_live : (file x : ℕ) → is_meta_file file ≡ true → is_live new file x ≡ true → ⊥
  not_live file x is h = true≢false (sym h ∙ live_false (kind_at new file x) (none_used file x is))

  held_none : (owner : ℕ → ℕ → Option ℕ) (next : ℕ → ℕ) (live : ℕ → Bool) → ((f x : ℕ) → owner f x ≡ None) → ((p : ℕ) → live p ≡ true → ⊥)
      → AreHeld owner next live
  held_none owner next live none unused = record {
    lists = λ f x. [];
    walk = λ f x first e. absurd (not_some (owner f x) first (none f x) e);
    only = λ f x first p e i. absurd (not_some (owner f x) first (none f x) e);
    held = λ p l. absurd (unused p l);
    once = λ f x first g y second p e d i j. absurd (not_some (owner f x) first (none f x) e);
  }

  properties : KeepsProperties new
  properties = record {
    held = held_none (property_owner (node_at new) (rel_at new)) _ _ no_owner (λ p. not_live format.properties_file p refl);
    keys = record {
      few = λ f x first e. absurd (not_some (property_owner (node_at new) (rel_at new) f x) first (no_owner f x) e);
      named = λ f x first p e i. absurd (not_some (property_owner (node_at new) (rel_at new) f x) first (no_owner f x) e);
      distinct = λ f x first p q e i j s. absurd (not_some (property_owner (node_at new) (rel_at new) f x) first (no_owner f x) e);
    };
    blocks = held_none (block_owner (kind_at new format.properties_file) (rec_at new format.properties_file)) _ _ no_block_owner
        (λ p. not_live format.strings_file p refl);
    texts = record {
      pieces = λ f x first e. absurd (not_some (block_owner (kind_at new format.properties_file) (rec_at new format.properties_file) f x) first
          (no_block_owner f x) e);
    };
  }

  split : (file : ℕ) → is_meta_file file ≡ true → IsSplit new file (is_live new file) []
  split file is = record {
    walk = ap (λ (m : Meta). m.free) (meta_in-made file is);
    low = λ x i. elim i [ ];
    only = λ x i. elim i [ ];
    all = λ x lt out. absurd (nothing_low file x is lt);
    exact = ap (λ (m : Meta). m.live) (meta_in-made file is) ∙ sym (ap (λ m. length (ids (is_live new file) m)) (mark file is));
  }

  listed : (h : Head) (n : ℕ) → Owns (kind_at new format.nodes_file) (group_at new) h n → IsListed new h n (StandsAt (rel_at new) (group_at new) h)
  listed h n (inl k) = absurd (let z = sym (none_used format.nodes_file n refl) ∙ k.sparse in omega arith)
  listed h n (inr k) = absurd (let z = sym (none_used format.nodes_file n refl) ∙ k.dense in omega arith)

  -- no transaction was taken over where no store was made
  pub new_well : is_allowed shape ≡ true → zeros_from format.taken_rest (before (meta_key_of format.taken_id)) ≡ true → IsWellFormed new shape
  new_well allowed none_taken = record {
    ranges = record {
      own = own-new allowed;
      newest = version_of-new shape;
      taken = none_taken;
      metas = λ file is. subst (IsMetaInRange shape file) (sym (meta-new file is)) (IsMetaInRange-empty shape file);
      fit = λ file x is lt. absurd (nothing_low file x is lt);
    };
    split = λ file is. ([], split file (meta_of_reused file is));
    kept = λ file is no_reuse. ap (λ (m : Meta). m.live) (meta_in-made file is) ∙ sym (mark file is);
    linked = record {
      ends = λ x row e. absurd (not_some (rel_at new x) row (no_rel x) e);
      typed = λ x n row e at d. absurd (not_some (rel_at new x) row (no_rel x) e);
      listed = record { each = listed };
    };
    grouped = record {
      owned = λ g row e. absurd (not_some (group_at new g) row (no_group g) e);
      each = λ n d. absurd (let z = sym (none_used format.nodes_file n refl) ∙ d in omega arith);
    };
    exact = λ g row e kind. absurd (not_some (group_at new g) row (no_group g) e);
    properties = properties;
    named = record {
      nodes_named = λ x row e. absurd (not_some (node_at new x) row (no_node x) e);
      rels_named = λ x row e. absurd (not_some (rel_at new x) row (no_rel x) e);
    };
    defined = record {
      labels = λ d is. absurd (let z = sym (none_used format.index_file d refl) ∙ is in omega arith);
      keys = λ d is. absurd (let z = sym (none_used format.index_file d refl) ∙ is in omega arith);
    };
    names = record {
      form = λ x lt. absurd (nothing_low format.names_file x refl lt);
      distinct = λ x y a b e. absurd (nothing_low format.names_file x refl a);
    };
    degrees = record {
      each = λ n some. absurd (some (none_used format.nodes_file n refl));
      few = λ n d. absurd (let z = sym (none_used format.nodes_file n refl) ∙ d in omega arith);
    };
  }

  pub new_unindexed : HasNoIndex new
  new_unindexed x = none_used format.index_file x refl

  pub new_store_empty : graph_of new ≡ empty_graph
  new_store_empty = λ i. record {
    nodes = ap (collect (node_of new)) (mark format.nodes_file refl) i;
    edges = ap (collect (edge_of new)) (mark format.relationships_file refl) i;
    names = ap (collect (λ x. Some (text_of (rec_at new format.names_file x)))) (mark format.names_file refl) i;
    indexes = ap (indexes_from (kind_at new format.index_file) (rec_at new format.index_file) (high new format.index_file) (rec_at new format.names_file))
        (mark format.names_file refl) i;
  }
