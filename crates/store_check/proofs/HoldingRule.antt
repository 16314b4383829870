-- The fifth rule of the store, and its sentences.
use Rattle.std.proofs.Common.{◌≡◌, ℕ, ◌<◌, Option, Some, None, List, [], sym, ◌∙◌, subst, refl}
use Rattle.rec_bytes.specs.Format as format
use Rattle.store_rules.specs.Chains.{In, IsWalk}
use Rattle.store_rules.specs.Rules as rules
use Rattle.store_rules.specs.Views.{NodeRow, Records, RelRow, high, is_live, kind_at, node_at, node_in, rec_at, rel_at, rel_in}
use Rattle.store_rules.proofs.ViewLaws.{live_true, some_row}
use Rattle.store_rules.specs.Breaking.{AreProperties, HasBlock, HasProperty, IsBlockList, IsLong, IsPropertyList, first_block, next_block, next_property}
use Rattle.store_check.specs.Holding.{AreDefinitionsRight, AreElementsRight, AreTextsRight}
use Rattle.store_check.proofs.BlockLaws.{long_low}
use Rattle.store_check.proofs.DefinitionLaws.{are_defined}
use Rattle.store_rules.proofs.ElementOwners.{owns_is}
use Rattle.store_rules.proofs.PropertyHolds.{blocks_one, owns_text, text_of, text_owner}
use Rattle.record_lists.proofs.LiveLaws.{live_below}
use Rattle.store_check.proofs.PropertyLaws.{properties_one}
use Rattle.store_rules.specs.Rules.{KeepsLabels}

-- lists of owners, from what each has
module _ (owner : ℕ → ℕ → Option ℕ) (Is : ℕ → ℕ → ℕ → List ℕ → Type 0) (keeps : (file x first : ℕ) → owner file x ≡ Some first → (xs : List ℕ) × Is file x first
    xs) where
  abbrev pub list_at : (file x : ℕ) (o : Option ℕ) → owner file x ≡ o → List ℕ
  list_at file x None e = []
  list_at file x (Some first) e = (keeps file x first e).0

  abbrev pub lists_of : ℕ → ℕ → List ℕ
  lists_of file x = list_at file x (owner file x) refl

  pub list_is : (file x first : ℕ) → owner file x ≡ Some first → Is file x first (lists_of file x)
  list_is file x first own = by (owner file x) refl own
    where
      by : (o : Option ℕ) (e : owner file x ≡ o) → o ≡ Some first → Is file x first (list_at file x o e)
      by None e k = absurd cc
      by (Some f) e k = let same : f ≡ first = cc in subst (λ z. Is file x z (keeps file x f e).0) same (keeps file x f e).1

module _ (records : Records) where
  -- ---- properties of elements

  abbrev pub owner : ℕ → ℕ → Option ℕ
  owner = rules.property_owner (node_at records) (rel_at records)

  abbrev pub IsIts : ℕ → ℕ → ℕ → List ℕ → Type 0
  IsIts file x first xs = IsPropertyList records first xs

  module _ (right : AreElementsRight records) where
    pub its_list : (file x first : ℕ) → owner file x ≡ Some first → (xs : List ℕ) × IsPropertyList records first xs
    its_list file x first own =
        let o = owns_is records x file first own in
        (right.keeps file x o.known (live_below records file x o.live)).list first own

    abbrev pub lists : ℕ → ℕ → List ℕ
    lists = lists_of owner IsIts its_list

    list : (file x first : ℕ) → owner file x ≡ Some first → IsPropertyList records first (lists file x)
    list = list_is owner IsIts its_list

    has : (file x first p : ℕ) → owner file x ≡ Some first → In p (lists file x) → HasProperty records file x p
    has file x first p own i = record { first = first; owns = own; among = record { members = lists file x; list = list file x first own; member = i } }

    pub are_held : rules.AreHeld owner (next_property records) (is_live records format.properties_file)
    are_held = record {
      lists = lists;
      walk = λ file x first own. (list file x first own).walk;
      only = λ file x first p own i. (list file x first own).live p i;
      held = λ p live.
          let h = (right.held p).held live in
          let a = h.2 in
          let one = properties_one records a.first a.among.members (lists h.0 h.1) a.among.list (list h.0 h.1 a.first a.owns) in
          (h.0, h.1, a.first, (a.owns, subst (In p) one a.among.member));
      once = λ file x first other y second p own own2 i j. (right.held p).once file x other y (has file x first p own i) (has other y second p own2 j);
    }

    pub have_keys : rules.HaveKeys owner lists (rec_at records format.properties_file) (high records format.names_file)
    have_keys = record {
      few = λ file x first own. (list file x first own).few;
      named = λ file x first p own i. (list file x first own).named p i;
      distinct = λ file x first p q own i j e. (list file x first own).distinct p q i j e;
    }

    pub are_named : KeepsLabels records
    are_named = record {
      nodes_named = λ x row live.
          let r = some_row (kind_at records 1 x) (node_in (rec_at records 1 x) x) row live in
          let l = live_true (kind_at records 1 x) r.0 in
          subst (λ (o : NodeRow). o.label < high records format.names_file) r.1 ((right.keeps 1 x refl (live_below records 1 x l)).named l);
      rels_named = λ x row live.
          let r = some_row (kind_at records 2 x) (rel_in (rec_at records 2 x) x) row live in
          let l = live_true (kind_at records 2 x) r.0 in
          subst (λ (o : RelRow). o.label < high records format.names_file) r.1 ((right.keeps 2 x refl (live_below records 2 x l)).named l);
    }

  -- ---- blocks of texts

  -- a text that has its blocks
  pub record IsText (file p first : ℕ) (xs : List ℕ) : Type 0 where
    pub file_is : file ≡ format.properties_file
    pub long : IsLong records p
    pub first_is : first_block records p ≡ first
    pub list : IsBlockList records p xs

  module _ (right : AreTextsRight records) where
    pub its_blocks : (file p first : ℕ) → text_owner records file p ≡ Some first → (xs : List ℕ) × IsText file p first xs
    its_blocks file p first own =
        let t = text_of records file p first own in
        let l = (right.keeps p (long_low records p t.1)).text t.1 in
        (l.0, record { file_is = t.0; long = t.1; first_is = t.2; list = l.1 })

    abbrev pub texts : ℕ → ℕ → List ℕ
    texts = lists_of (text_owner records) IsText its_blocks

    text : (file p first : ℕ) → text_owner records file p ≡ Some first → IsText file p first (texts file p)
    text = list_is (text_owner records) IsText its_blocks

    has_block : (file p first b : ℕ) → text_owner records file p ≡ Some first → In b (texts file p) → HasBlock records p b
    has_block file p first b own i = let t = text file p first own in record { long = t.long; members = texts file p; list = t.list; member = i }

    pub blocks_held : rules.AreHeld (text_owner records) (next_block records) (is_live records format.strings_file)
    blocks_held = record {
      lists = texts;
      walk = λ file p first own. let t = text file p first own in subst (λ f. IsWalk (next_block records) f (texts file p)) t.first_is t.list.walk;
      only = λ file p first b own i. let t = text file p first own in t.list.live b i;
      held = λ b live.
          let h = (right.held b).held live in
          let own = owns_text records h.0 h.1.long in
          let t = text format.properties_file h.0 (first_block records h.0) own in
          let one = blocks_one records h.0 h.1.members (texts format.properties_file h.0) h.1.list t.list in
          (format.properties_file, h.0, first_block records h.0, (own, subst (In b) one h.1.member));
      once = λ file p first other q second b own own2 i j.
          let t = text file p first own in
          let u = text other q second own2 in
          (t.file_is ∙ sym u.file_is, (right.held b).once p q (has_block file p first b own i) (has_block other q second b own2 j));
    }

    pub have_texts : rules.HaveTexts (text_owner records) texts (rec_at records format.properties_file) (rec_at records format.strings_file)
    have_texts = record { pieces = λ file p first own. let t = text file p first own in t.list.pieces }

  -- where each record keeps it, the store does
  pub are_properties : AreElementsRight records → AreTextsRight records → AreDefinitionsRight records → AreProperties records
  unfolding are_held blocks_held
  are_properties elements blocks definitions = record {
    properties = record {
      held = are_held elements;
      keys = have_keys elements;
      blocks = blocks_held blocks;
      texts = have_texts blocks;
    };
    named = are_named elements;
    defined = are_defined records definitions;
  }
