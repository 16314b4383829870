-- What a content of the disk stands for is one graph.
use Rattle.std.proofs.Common.{◌≡◌, ◌∙◌, [], Some, None, inl, inr, refl, sym, ap, arith}
use Rattle.disk_model.specs.Contents.{Files}
use Rattle.plain_graph.specs.Graph.{Graph}
use Rattle.rec_bytes.specs.Creation.{own_key}
use Rattle.rec_bytes.specs.Format.{own_id}
use Rattle.rec_bytes.specs.Record.{zeros}
use Rattle.rec_bytes.specs.Shape.{shape_of_record}
use Rattle.rec_bytes.specs.declared.key.Key.{Key}
use Rattle.rec_bytes.specs.declared.record.Rec.{Rec}
use Rattle.rec_bytes.specs.declared.shape.Shape.{Shape}
use Rattle.record_file.specs.Records.{IsUnmade, record_at}
use Rattle.record_file.specs.Redone.{Redoes}
use Rattle.record_file.specs.Unique.{Redoes-unique}
use Rattle.recovery.specs.Finding as finding
use Rattle.recovery.specs.Finding.{IsRecoverable}
use Rattle.store_rules.specs.Graph.{graph_of}
use Rattle.stored_graph.specs.Stands.{IsMade, IsServed, Stands, StandsFor}
use Rattle.stored_graph.proofs.Versions.{newest-indexed}

-- ---- a store was made in a content, or none was

-- zeros are no store's own record
zeros-no_shape : shape_of_record zeros ≡ None
zeros-no_shape = refl

-- where none was made, the records are those of the files
unmade-redoes : (content : Files) → IsUnmade content → Redoes content (record_at content)
unmade-redoes content unmade = record { entries = []; tail = 0; log = unmade.log; makes = refl }

-- and so none is found in them
pub unmade-not_found : (content : Files) (shape : Shape) (space : Key → Rec) → IsUnmade content → Redoes content space → ¬ finding.IsMade space shape
unmade-not_found content shape space unmade redoes made =
    let same : record_at content ≡ space = Redoes-unique content (record_at content) space (unmade-redoes content unmade) redoes in
    let own : zeros ≡ space own_key = sym (unmade.blank own_id (omega arith)) ∙ ap (λ (records : Key → Rec). records own_key) same in
    none (sym zeros-no_shape ∙ ap shape_of_record own ∙ made.own)
  where
    none : ¬ (None ≡ Some shape)
    none e = cc

pub unmade-not_made : (content : Files) (shape : Shape) (graph : Graph) → IsUnmade content → ¬ IsMade content shape graph
unmade-not_made content shape graph unmade made = unmade-not_found content shape made.space unmade made.redoes made.store.made

-- what stands for a graph is a store, or none was made in it
pub stands-recoverable : (content : Files) (shape : Shape) (graph : Graph) → Stands content shape graph → IsRecoverable content
stands-recoverable content shape graph (inl unmade) = (record_at content, unmade-redoes content unmade.0, inl unmade.0)
stands-recoverable content shape graph (inr made) = (made.space, made.redoes, inr (shape, made.store.made))

-- ---- a content stands for one graph

pub IsMade-only : (content : Files) (shape other : Shape) (a b : Graph) → IsMade content shape a → IsMade content other b → a ≡ b
IsMade-only content shape other a b h k = h.graph_is ∙ ap graph_of (Redoes-unique content h.space k.space h.redoes k.redoes) ∙ sym k.graph_is

pub Stands-only : (content : Files) (shape other : Shape) (a b : Graph) → Stands content shape a → Stands content other b → a ≡ b
Stands-only content shape other a b (inl h) (inl k) = h.1 ∙ sym k.1
Stands-only content shape other a b (inl h) (inr k) = absurd (unmade-not_made content other b h.0 k)
Stands-only content shape other a b (inr h) (inl k) = absurd (unmade-not_made content shape a k.0 h)
Stands-only content shape other a b (inr h) (inr k) = IsMade-only content shape other a b h k

-- ---- the newest version

-- a store of the newest version is one of whatever version
pub served-made : (content : Files) (shape : Shape) (graph : Graph) → IsServed content shape graph → IsMade content shape graph
served-made content shape graph served = record {
  space = served.space;
  redoes = served.redoes;
  store = newest-indexed served.space shape served.store;
  graph_is = served.graph_is;
}

pub newest-stands : (content : Files) (shape : Shape) (graph : Graph) → StandsFor content shape graph → Stands content shape graph
newest-stands content shape graph (inl unmade) = inl unmade
newest-stands content shape graph (inr served) = inr (served-made content shape graph served)
