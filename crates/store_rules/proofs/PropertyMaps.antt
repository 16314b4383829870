-- A change of a list of properties is a change of their map.
use Rattle.std.proofs.Common.{◌≡◌, ◌≢◌, ◌∙◌, ◌++◌, ◌<◌, ℕ, Bool, true, false, cond, List, [], ◌∷◌, Option, Some, None, map, inl, inr, ap, sym, subst, refl}
use Rattle.std.specs.Cmp.{eq_by_cmp_equiv}
use Rattle.std.specs.FinMap.{find, get, insert, remove, same_map, get-insert, get-remove, get-from_entries, slice_cmp-IsAntisymmetric, nat_cmp-IsAntisymmetric}
use Rattle.std.specs.Ordering.{eq_by_cmp}
use Rattle.std.specs.Cmp.Lexicographic.{nat_list_cmp_total}
use Rattle.plain_graph.proofs.PropertyLaws.{order, same_key}
use Rattle.plain_graph.specs.Properties.{Properties, no_properties}
use Rattle.plain_graph.specs.declared.value.Value.{Value}
use Rattle.rec_bytes.specs.declared.record.Rec.{Rec}
use Rattle.store_rules.specs.Chains.{In}
use Rattle.store_rules.specs.Properties.{Property, keys_of, map_of, named_property}
use Rattle.store_rules.specs.Rules.{AreNames}
use Rattle.store_rules.specs.Views.{text_of}

-- a choice that was made is made again
again : {A : Type 0} (b : Bool) (x y z : A) → cond b x z ≡ cond b x (cond b y z)
again true x y z = refl
again false x y z = refl

-- two choices that can't both be made may be made in either order
turned : {A : Type 0} (a b : Bool) (x y z : A) → (a ≡ true → b ≡ true → ⊥) → cond a x (cond b y z) ≡ cond b y (cond a x z)
turned true true x y z apart = absurd (apart refl refl)
turned true false x y z apart = refl
turned false true x y z apart = refl
turned false false x y z apart = refl

-- maps that answer alike are the same
same_maps : (m n : Properties) → ((q : List ℕ) → get m q ≡ get n q) → m ≡ n
same_maps m n same = same_map nat_list_cmp_total (λ x y e. slice_cmp-IsAntisymmetric nat_cmp-IsAntisymmetric x y e) m n same

module _ (name_file : ℕ → Rec) where
  -- the text of a property's key
  abbrev pub key_text : Property → List ℕ
  key_text e = text_of (name_file e.key)

  -- none of these properties has a key of this text
  abbrev pub LackKey : List Property → List ℕ → Type 0
  LackKey es text = (k : ℕ) → In k (keys_of es) → text_of (name_file k) ≢ text

  -- the value of the first property whose key has the text
  abbrev find_in : List ℕ → List Property → Option Value
  find_in q es = find order q (map (named_property name_file) es)

  -- a map answers with what is found first
  get_in : (es : List Property) (q : List ℕ) → get (map_of name_file es) q ≡ find_in q es
  get_in es q = get-from_entries nat_list_cmp_total (map (named_property name_file) es) q

  module _ (q : List ℕ) where
    -- where none has the key, none is found
    find_none : (es : List Property) → LackKey es q → find_in q es ≡ None
    find_none [] lack = refl
    find_none (e ∷ es) lack = (elim (eq_by_cmp order q (key_text e)) as (λ (b : Bool). eq_by_cmp order q (key_text e) ≡ b → cond b (Some e.value) (find_in q es)
        ≡ None) [
          | true ↦ λ h. absurd (lack e.key (inl refl) (sym (same_key q (key_text e) h)))
          | false ↦ λ h. find_none es (λ k i. lack k (inr i))
        ]) refl

    -- what is found where a value is replaced
    find_replaced : (front : List Property) (e now : Property) (back : List Property) → LackKey front (key_text e) → now.key ≡ e.key
        → find_in q (front ++ now ∷ back) ≡ cond (eq_by_cmp order q (key_text e)) (Some now.value) (find_in q (front ++ e ∷ back))
    find_replaced [] e now back lack same = ap (λ k. cond (eq_by_cmp order q (text_of (name_file k))) (Some now.value) (find_in q back)) same
        ∙ again (eq_by_cmp order q (key_text e)) (Some now.value) (Some e.value) (find_in q back)
    find_replaced (f ∷ fs) e now back lack same =
        ap (cond (eq_by_cmp order q (key_text f)) (Some f.value)) (find_replaced fs e now back (λ k i. lack k (inr i)) same)
        ∙ turned (eq_by_cmp order q (key_text f)) (eq_by_cmp order q (key_text e)) (Some f.value) (Some now.value) (find_in q (fs ++ e ∷ back))
        (λ a b. lack f.key (inl refl) (sym (same_key q (key_text f) a) ∙ same_key q (key_text e) b))

    -- what is found where a property is taken out
    find_removed : (front : List Property) (e : Property) (back : List Property) → LackKey front (key_text e) → LackKey back (key_text e)
        → find_in q (front ++ back) ≡ cond (eq_by_cmp order q (key_text e)) None (find_in q (front ++ e ∷ back))
    find_removed [] e back lack rest = (elim (eq_by_cmp order q (key_text e)) as (λ (b : Bool). eq_by_cmp order q (key_text e) ≡ b → find_in q back ≡ cond b
        None (cond b (Some e.value) (find_in q back))) [
          | true ↦ λ h. find_none back (λ k i z. rest k i (z ∙ same_key q (key_text e) h))
          | false ↦ λ h. refl
        ]) refl
    find_removed (f ∷ fs) e back lack rest =
        ap (cond (eq_by_cmp order q (key_text f)) (Some f.value)) (find_removed fs e back (λ k i. lack k (inr i)) rest)
        ∙ turned (eq_by_cmp order q (key_text f)) (eq_by_cmp order q (key_text e)) (Some f.value) None (find_in q (fs ++ e ∷ back))
        (λ a b. lack f.key (inl refl) (sym (same_key q (key_text f) a) ∙ same_key q (key_text e) b))

  -- no property, no value
  pub map_of-none : map_of name_file [] ≡ no_properties
  map_of-none = refl

  -- a property put in front
  pub map_of-pushed : (e : Property) (es : List Property) → map_of name_file (e ∷ es) ≡ insert (map_of name_file es) (key_text e) e.value
  map_of-pushed e es = refl

  -- another value of the same key, in place
  pub map_of-replaced : (front : List Property) (e now : Property) (back : List Property) → LackKey front (key_text e) → now.key ≡ e.key
      → map_of name_file (front ++ now ∷ back) ≡ insert (map_of name_file (front ++ e ∷ back)) (key_text e) now.value
  map_of-replaced front e now back lack same =
      same_maps (map_of name_file (front ++ now ∷ back)) (insert (map_of name_file (front ++ e ∷ back)) (key_text e) now.value) (λ q.
      get_in (front ++ now ∷ back) q ∙ find_replaced q front e now back lack same
      ∙ ap (cond (eq_by_cmp order q (key_text e)) (Some now.value)) (sym (get_in (front ++ e ∷ back) q))
      ∙ sym (get-insert nat_list_cmp_total (map_of name_file (front ++ e ∷ back)) (key_text e) now.value q))

  -- a property taken out
  pub map_of-removed : (front : List Property) (e : Property) (back : List Property) → LackKey front (key_text e) → LackKey back (key_text e)
      → map_of name_file (front ++ back) ≡ remove (map_of name_file (front ++ e ∷ back)) (key_text e)
  map_of-removed front e back lack rest =
      same_maps (map_of name_file (front ++ back)) (remove (map_of name_file (front ++ e ∷ back)) (key_text e)) (λ q.
      get_in (front ++ back) q ∙ find_removed q front e back lack rest
      ∙ ap (cond (eq_by_cmp order q (key_text e)) None) (sym (get_in (front ++ e ∷ back) q))
      ∙ sym (get-remove nat_list_cmp_total (map_of name_file (front ++ e ∷ back)) (key_text e) q))

  -- what a key has: the value of its property, or none
  pub get-map_of_none : (es : List Property) (text : List ℕ) → LackKey es text → get (map_of name_file es) text ≡ None
  get-map_of_none es text lack = get_in es text ∙ find_none text es lack

  pub get-map_of_some : (front : List Property) (e : Property) (back : List Property) → LackKey front (key_text e)
      → get (map_of name_file (front ++ e ∷ back)) (key_text e) ≡ Some e.value
  get-map_of_some front e back lack = get_in (front ++ e ∷ back) (key_text e) ∙ find_replaced (key_text e) front e e back lack refl
      ∙ ap (λ b. cond b (Some e.value) (find_in (key_text e) (front ++ e ∷ back))) ((eq_by_cmp_equiv nat_list_cmp_total).refl (key_text e))

  -- where none has the key, nothing is taken out
  pub map_of-lacking : (es : List Property) (text : List ℕ) → LackKey es text → remove (map_of name_file es) text ≡ map_of name_file es
  map_of-lacking es text lack = same_maps (remove (map_of name_file es) text) (map_of name_file es)
      (λ q. get-remove nat_list_cmp_total (map_of name_file es) text q ∙ by q (eq_by_cmp order q text) refl)
    where
      by : (q : List ℕ) (b : Bool) → eq_by_cmp order q text ≡ b → cond b None (get (map_of name_file es) q) ≡ get (map_of name_file es) q
      by q true e = sym (ap (get (map_of name_file es)) (same_key q text e) ∙ get-map_of_none es text lack)
      by q false e = refl

  -- keys that are names have texts apart
  pub lack_key : (names : ℕ) → AreNames name_file names → (es : List Property) (k : ℕ) → k < names → ((j : ℕ) → In j (keys_of es) → j < names)
      → ¬ In k (keys_of es) → LackKey es (text_of (name_file k))
  lack_key names are es k low each out j i e = out (subst (λ z. In z (keys_of es)) (are.distinct j k (each j i) low e) i)
