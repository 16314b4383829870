-- Where reading stops: from what is left to say of a line to the whole line.
use Rattle.std.proofs.Common.{◌≡◌, ◌⊎◌, inl, ℕ, ◌+◌, ◌-◌, ◌≤◌, ◌<◌, List, [], ◌∷◌, ◌++◌, length, take, refl, sym, ap}
use Rattle.std.proofs.Common.{◌∙◌, subst, ⊎_elim, append_assoc, length-append, zero-add, add-zero, suc, zero, arith}
use Rattle.std.proofs.lemmas.List.{append_cancel_left, append-nil}
use Rattle.gremlin_parse.specs.Grammar.{Exactly}
use Rattle.gremlin_parse.specs.Faults.{IsViable, StopsAt}
use Rattle.gremlin_parse.specs.Reading.{first_byte, LeavesWord, StopsBefore, Then}

-- After the read bytes, a line of the first language goes on as one of the second language, where the unread bytes begin with the same byte.
pub record Continues (Whole : List ℕ → Type 0) (read : List ℕ) (Left : List ℕ → Type 0) (unread : List ℕ) : Type 0 where
  pub onto : (more : List ℕ) → Left more → Whole (read ++ more)
  pub back : (more : List ℕ) → first_byte more ≡ first_byte unread → Whole (read ++ more) → Left more

pub first_byte-append : (read more unread : List ℕ) → first_byte more ≡ first_byte unread → first_byte (read ++ more) ≡ first_byte (read ++ unread)
first_byte-append [] more unread same = same
first_byte-append (b ∷ read) more unread same = refl

-- where reading stops after what was read
pub stops_after : (Whole Left : List ℕ → Type 0) (bytes read rest : List ℕ) (left : ℕ) → bytes ≡ read ++ rest → Continues Whole read Left rest
    → StopsBefore Left rest left → StopsBefore Whole bytes left
stops_after Whole Left bytes read rest left bytes_are goes stop = record {
  read = read ++ stop.read;
  unread = stop.unread;
  bytes_are = bytes_are ∙ ap (λ r. read ++ r) stop.bytes_are ∙ sym (append_assoc read stop.read stop.unread);
  left_is = stop.left_is;
  viable =
      let whole = goes.onto (stop.read ++ stop.viable.0) stop.viable.1 in
      (stop.viable.0, subst Whole (sym (append_assoc read stop.read stop.viable.0)) whole);
  none = λ more same whole.
      let left_over : Left (stop.read ++ more) = goes.back (stop.read ++ more)
      (first_byte-append stop.read more stop.unread same ∙ ap first_byte (sym stop.bytes_are)) (subst Whole (append_assoc read stop.read more) whole) in
      stop.none more same left_over;
}

-- Reading stops at the first byte, where no line begins with it.
pub stops_here : (Language : List ℕ → Type 0) (bytes line : List ℕ) → Language line → ((more : List ℕ) → first_byte more ≡ first_byte bytes → ¬ Language more)
    → StopsBefore Language bytes (length bytes)
stops_here Language bytes line some none = record { read = []; unread = bytes; bytes_are = refl; left_is = refl; viable = (line, some); none = none }

-- Reading stops in a word, where the bytes differ from it.
pub stops_in_word : (After : List ℕ → Type 0) (word bytes line : List ℕ) (left : ℕ) → After line → LeavesWord word bytes left
    → StopsBefore (Then (Exactly word) After) bytes left
stops_in_word After word bytes line left some leaves = record {
  read = leaves.read;
  unread = leaves.unread;
  bytes_are = leaves.bytes_are;
  left_is = leaves.left_is;
  viable = (
    (leaves.next ∷ leaves.more) ++ line,
    (
      word,
      line,
      sym (append_assoc leaves.read (leaves.next ∷ leaves.more) line) ∙ ap (λ w. w ++ line)
          (sym leaves.word_is),
      refl,
      some,
    ),
  );
  none = λ more same (prefix, rest, whole, prefix_is, after).
      let goes_on : more ≡ leaves.next ∷ (leaves.more ++ rest) = append_cancel_left leaves.read more (leaves.next ∷ (leaves.more ++ rest))
      (whole ∙ ap (λ w. w ++ rest) (prefix_is ∙ leaves.word_is) ∙ append_assoc leaves.read (leaves.next ∷ leaves.more) rest) in
      leaves.differs (sym same ∙ ap first_byte goes_on);
}

-- the same lines
pub stops_of_same : (Whole Left : List ℕ → Type 0) (bytes : List ℕ) (left : ℕ) → ((more : List ℕ) → Left more → Whole more)
    → ((more : List ℕ) → first_byte more ≡ first_byte bytes → Whole more → Left more) → StopsBefore Left bytes left → StopsBefore Whole bytes left
stops_of_same Whole Left bytes left onto back stop = stops_after Whole Left bytes [] bytes left refl (record { onto = onto; back = back }) stop

-- the rest of the longer one of two prefixes
longer_cut : (one two more rest : List ℕ) → one ++ more ≡ two ++ rest → length more ≤ length rest → (between : List ℕ) × (one ≡ two ++ between)
    × (rest ≡ between ++ more)
longer_cut one [] more rest same le = (one, refl, sym same)
longer_cut [] (b ∷ two) more rest same le =
    let len : length more ≡ suc (length two + length rest) = ap length same ∙ ap suc (length-append two rest) in
    absurd (omega (arith, le, len))
longer_cut (b ∷ one) (c ∷ two) more rest same le =
    let heads : b ≡ c = cc in
    let tails : one ++ more ≡ two ++ rest = cc in
    let (between, one_is, rest_is) = longer_cut one two more rest tails le in
    (between, (λ i. heads i ∷ one_is i), rest_is)

-- Where reading stops in two languages, it stops in both together at the later place.
pub stops_in_both : (One Two : List ℕ → Type 0) (bytes : List ℕ) (left more_left : ℕ) → left ≤ more_left → StopsBefore One bytes left
    → StopsBefore Two bytes more_left → StopsBefore (λ these. One these ⊎ Two these) bytes left
stops_in_both One Two bytes left more_left le one two =
    let lens : length one.unread ≤ length two.unread = omega (arith, le, one.left_is, two.left_is) in
    let (between, read_is, unread_is) = longer_cut one.read two.read one.unread two.unread (sym one.bytes_are ∙ two.bytes_are) lens in
    record {
      read = one.read;
      unread = one.unread;
      bytes_are = one.bytes_are;
      left_is = one.left_is;
      viable = (one.viable.0, inl one.viable.1);
      none = λ more same is. ⊎_elim
          (λ (first : One (one.read ++ more)). one.none more same first)
          (λ (second : Two (one.read ++ more)).
          two.none (between ++ more) (first_byte-append between more one.unread same ∙ ap first_byte (sym unread_is))
          (subst Two (ap (λ r. r ++ more) read_is ∙ append_assoc two.read between more) second))
          is;
    }

pub StopsBefore-refuses : (Language : List ℕ → Type 0) (bytes : List ℕ) (left : ℕ) → StopsBefore Language bytes left → ¬ Language bytes
StopsBefore-refuses Language bytes left stop is = stop.none stop.unread refl (subst Language stop.bytes_are is)

pub take-append-add : (read unread : List ℕ) (n : ℕ) → take (length read + n) (read ++ unread) ≡ read ++ take n unread
take-append-add [] unread n = ap (λ k. take k unread) (zero-add n)
take-append-add (b ∷ read) unread n =
    let longer : length (b ∷ read) + n ≡ suc (length read + n) = omega arith in
    ap (λ k. take k (b ∷ (read ++ unread))) longer ∙ ap (λ prefix. b ∷ prefix) (take-append-add read unread n)

first_byte-take : (n : ℕ) (bytes more : List ℕ) → 0 < n → n ≤ length bytes → first_byte (take n bytes ++ more) ≡ first_byte bytes
first_byte-take n [] more some within = absurd (omega arith)
first_byte-take zero (b ∷ bytes) more some within = absurd (omega arith)
first_byte-take (suc n) (b ∷ bytes) more some within = refl

-- the place where reading stops, counted from the start
pub StopsBefore-StopsAt : (Language : List ℕ → Type 0) (bytes : List ℕ) (left : ℕ) → StopsBefore Language bytes left
    → StopsAt Language bytes (length bytes - left)
StopsBefore-StopsAt Language bytes left stop =
    let len : length bytes ≡ length stop.read + left = ap length stop.bytes_are ∙ length-append stop.read stop.unread
    ∙ ap (λ n. length stop.read + n) (sym stop.left_is) in
    let at : length bytes - left ≡ length stop.read = omega arith in
    let prefix : take (length bytes - left) bytes ≡ stop.read = ap (λ k. take k bytes) (at ∙ sym (add-zero (length stop.read)))
    ∙ ap (take (length stop.read + 0)) stop.bytes_are ∙ take-append-add stop.read stop.unread 0 ∙ append-nil stop.read in
    record {
      within = omega arith;
      viable = subst (IsViable Language) (sym prefix) stop.viable;
      longest = λ longer above fits (more, line).
          let n : ℕ = longer - length stop.read in
          let longer_is : longer ≡ length stop.read + n = omega arith in
          let long_prefix : take longer bytes ≡ stop.read ++ take n stop.unread = ap (λ k. take k bytes) longer_is
          ∙ ap (take (length stop.read + n)) stop.bytes_are ∙ take-append-add stop.read stop.unread n in
          stop.none (take n stop.unread ++ more) (first_byte-take n stop.unread more (omega arith) (omega arith))
          (subst Language (ap (λ f. f ++ more) long_prefix ∙ append_assoc stop.read (take n stop.unread) more) line);
    }
