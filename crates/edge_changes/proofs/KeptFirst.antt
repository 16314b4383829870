-- An edge stays the first in its chains where its properties change.
use Rattle.std.proofs.Common.{◌≡◌, ◌≢◌, ℕ, ◌+◌, ◌≤◌, Option, Some, sym, ap, ◌∙◌, subst, inl, inr, ⊎_elim, arith}
use Rattle.plain_graph.specs.declared.command.Target.TheVariants as targets
use Rattle.rec_bytes.specs.declared.key.Key.{Key}
use Rattle.rec_bytes.specs.declared.record.Rec.{Rec}
use Rattle.rec_bytes.specs.Format as format
use Rattle.rec_bytes.specs.Record.{field}
use Rattle.store_rules.specs.Rules.{Head, IsOn, Owns}
use Rattle.store_rules.specs.Views.{GroupRow, Records, RelRow, group_at, group_in, key_in, kind_at, rec_at, rel_at, rel_in, row_if}
use Rattle.store_rules.proofs.ViewLaws.{row_some, some_row}
use Rattle.change_parts.specs.Assigning.{KeepsLinks}
use Rattle.edge_changes.specs.EdgePlacing.{IsFirst, IsFirstAt}
use Rattle.change_parts.specs.Owners.{owner_of}
use Rattle.change_parts.proofs.KeptLinks.{IsOther, kind_kept, number_kept}

-- a change of the properties of an edge
module _ (old new : Records) (id : ℕ) (keeps : KeepsLinks old new (owner_of (targets.Edge id))) where
  nodes_other : IsOther format.nodes_file
  nodes_other = record { no_properties = λ e. omega arith; no_strings = λ e. omega arith }

  groups_other : IsOther format.groups_file
  groups_other = record { no_properties = λ e. omega arith; no_strings = λ e. omega arith }

  edges_other : IsOther format.relationships_file
  edges_other = record { no_properties = λ e. omega arith; no_strings = λ e. omega arith }

  -- records of nodes and groups stay
  record_kept : (file x : ℕ) → IsOther file → file ≢ format.meta_file → file ≢ format.relationships_file → rec_at new file x ≡ rec_at old file x
  record_kept file x other record_file beside = keeps.others (key_in file x) other.no_properties other.no_strings
      (λ e. record_file (ap (λ (k : Key). k.file) e)) (λ e. record_file (ap (λ (k : Key). k.file) e)) (λ e. beside (ap (λ (k : Key). k.file) e))

  kinds_kept : kind_at new format.nodes_file ≡ kind_at old format.nodes_file
  kinds_kept = λ i n. kind_kept old new (targets.Edge id) keeps format.nodes_file nodes_other (λ e. omega arith) n i

  groups_kept : group_at new ≡ group_at old
  groups_kept = λ i g. row_if (kind_kept old new (targets.Edge id) keeps format.groups_file groups_other (λ e. omega arith) g i)
      (group_in (record_kept format.groups_file g groups_other (λ e. omega arith) (λ e. omega arith) i) g)

  -- the edge has its type and its ends
  abbrev now_row : RelRow
  now_row = rel_in (rec_at new format.relationships_file id) id

  number_is : (at : ℕ) → at + 4 ≤ format.relationship_first_property → field 4 (rec_at new format.relationships_file id) at ≡ field 4
      (rec_at old format.relationships_file id) at
  number_is at low = number_kept old new (targets.Edge id) keeps format.relationships_file id 4 at edges_other (λ e. omega arith)
      (record { inside = omega arith; of_node = λ e. absurd (omega arith); of_edge = λ e. inl low })

  row_now : (row : RelRow) → rel_at old id ≡ Some row → (rel_at new id ≡ Some now_row) × (now_row.label ≡ row.label) × (now_row.from ≡ row.from)
      × (now_row.to ≡ row.to)
  row_now row there =
      let was = some_row (kind_at old format.relationships_file id) (rel_in (rec_at old format.relationships_file id) id) row there in
      let kind = kind_kept old new (targets.Edge id) keeps format.relationships_file edges_other (λ e. omega arith) id in (
        row_some (kind_at new format.relationships_file id) now_row (λ e. was.0 (sym kind ∙ e)),
        number_is format.relationship_type (omega arith) ∙ ap (λ (r : RelRow). r.label) was.1,
        number_is format.relationship_source (omega arith) ∙ ap (λ (r : RelRow). r.from) was.1,
        number_is format.relationship_target (omega arith) ∙ ap (λ (r : RelRow). r.to) was.1,
      )

  -- what stands at a head by its type and its ends
  on_like : (groups : ℕ → Option GroupRow) (h : Head) (a b : RelRow) → b.label ≡ a.label → b.from ≡ a.from → b.to ≡ a.to → IsOn groups h a → IsOn groups h b
  on_like groups h a b label from to (inl k) = inl (k.0, ⊎_elim (λ (e : a.from ≡ h.key.id). inl (from ∙ e)) (λ (e : a.to ≡ h.key.id). inr (to ∙ e)) k.1)
  on_like groups h a b label from to (inr k) = inr (
    k.0,
    record {
      row = k.1.row;
      group = k.1.group;
      label = label ∙ k.1.label;
      side = ⊎_elim
          (λ z. inl (z.0, from ∙ z.1, (λ e. z.2 (sym to ∙ e))))
          (λ w. ⊎_elim
          (λ z. inr (inl (z.0, (λ e. z.1 (sym from ∙ e)), to ∙ z.2)))
          (λ z. inr (inr (z.0, from ∙ z.1, to ∙ z.2))) w) k.1.side;
    },
  )

  first_at : (node : ℕ) (row : RelRow) → rel_at old id ≡ Some row → IsFirstAt old id node row → IsFirstAt new id node now_row
  first_at node row there is =
      let r = row_now row there in
      let h = is.head in
      record {
        head = h;
        end = record {
          owns = subst (λ kinds. Owns kinds (group_at new) h node) (sym kinds_kept)
              (subst (λ groups. Owns (kind_at old format.nodes_file) groups h node) (sym groups_kept) is.end.owns);
          on = on_like (group_at new) h row now_row r.1 r.2 r.3 (subst (λ groups. IsOn groups h row) (sym groups_kept) is.end.on);
        };
        first = ap (λ (r : Rec). field 4 r h.field) (head_kept h is.end.owns) ∙ is.first;
        counted = λ file. kind_kept old new (targets.Edge id) keeps format.groups_file groups_other (λ e. omega arith) h.key.id ∙ is.counted file;
      }
    where
      head_kept : (h : Head) → Owns (kind_at old format.nodes_file) (group_at old) h node → new h.key ≡ old h.key
      head_kept h (inl o) = ap (λ (z : Head). new z.key) o.is ∙ record_kept format.nodes_file node nodes_other (λ e. omega arith) (λ e. omega arith)
          ∙ sym (ap (λ (z : Head). old z.key) o.is)
      head_kept h (inr o) = ap new o.key ∙ record_kept format.groups_file o.row.id groups_other (λ e. omega arith) (λ e. omega arith) ∙ sym (ap old o.key)

  pub first_kept : (from to : ℕ) → IsFirst old id from to → IsFirst new id from to
  first_kept from to is =
      let r = row_now is.row is.there in
      record {
        row = now_row;
        there = r.0;
        from_is = r.2 ∙ is.from_is;
        to_is = r.3 ∙ is.to_is;
        source = first_at from is.row is.there is.source;
        target = first_at to is.row is.there is.target;
        previous = λ loop. number_is format.relationship_target_previous (omega arith) ∙ is.previous loop;
        next = λ loop. number_is format.relationship_target_next (omega arith) ∙ is.next loop;
      }
