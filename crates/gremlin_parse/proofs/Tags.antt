-- What names the session of a line, whatever stands after it.
use Rattle.std.proofs.Common.{◌≡◌, inl, inr, ℕ, ◌-◌, ◌≤◌, Bool, true, ◌&&◌, cond, Option, Some, None, List, [], ◌∷◌}
use Rattle.std.proofs.Common.{◌++◌, length, take, drop, get_or, refl, sym, ap, ◌∙◌, append_assoc}
use Rattle.gremlin_parse.specs.Grammar.{AreBlanks, is_blank}
use Rattle.gremlin_parse.specs.Faults.{EndsRun}
use Rattle.gremlin_parse.specs.Reading.{first_byte}
use Rattle.gremlin_parse.specs.Stopping.{StopsWith}
use Rattle.gremlin_parse.specs.Symbols.{AnyBlanks, Takes}
use Rattle.gremlin_parse.specs.Tags.{IsTag, LeavesSession, LeavesTag, ReadsSession, ReadsTag, after_tag, is_at}
use Rattle.gremlin_parse.specs.Tags.{is_session, named_by, rest_by, session_first, tag_first, tag_in}
use Rattle.gremlin_parse.specs.declared.stop.Stop.{Stop}
use Rattle.gremlin_parse.specs.declared.stop.Stop.TheVariants as stops
use Rattle.gremlin_parse.proofs.Runs.{EndsRun-first_byte, first_and_rest}

-- ---- what is found

blanks_before : (blanks more : List ℕ) → AreBlanks blanks → tag_in (blanks ++ more) ≡ tag_in more
blanks_before [] more are = refl
blanks_before (b ∷ blanks) more are =
    ap (λ (is : Bool). cond is (tag_in (blanks ++ more)) (tag_first (b ∷ (blanks ++ more)))) are.0 ∙ blanks_before blanks more are.1

after_blanks : (bytes : List ℕ) → EndsRun is_blank bytes → tag_in bytes ≡ tag_first bytes
after_blanks [] ends = refl
after_blanks (b ∷ bytes) ends = ap (λ (is : Bool). cond is (tag_in bytes) (tag_first (b ∷ bytes))) ends

tag_behind : (blanks bytes : List ℕ) → AreBlanks blanks → EndsRun is_blank bytes → tag_in (blanks ++ bytes) ≡ tag_first bytes
tag_behind blanks bytes are ends = blanks_before blanks bytes are ∙ after_blanks bytes ends

-- a session and a blank
session_found : (digit blank : ℕ) (rest : List ℕ) → is_session digit ≡ true → is_blank blank ≡ true
    → session_first (digit ∷ blank ∷ rest) ≡ Some (digit - 48, rest)
session_found digit blank rest is ends =
    ap (λ (a : Bool). cond (a && is_blank blank) (Some (digit - 48, rest)) None) is ∙ ap (λ (a : Bool). cond (true && a) (Some (digit - 48, rest)) None) ends

no_digit : (bytes : List ℕ) → EndsRun is_session bytes → session_first bytes ≡ None
no_digit [] ends = refl
no_digit (digit ∷ []) ends = refl
no_digit (digit ∷ blank ∷ rest) ends = ap (λ (a : Bool). cond (a && is_blank blank) (Some (digit - 48, rest)) None) ends

no_blank_after : (digit : ℕ) (bytes : List ℕ) → is_session digit ≡ true → EndsRun is_blank bytes → session_first (digit ∷ bytes) ≡ None
no_blank_after digit [] is ends = refl
no_blank_after digit (blank ∷ rest) is ends =
    ap (λ (a : Bool). cond (a && is_blank blank) (Some (digit - 48, rest)) None) is ∙ ap (λ (a : Bool). cond (true && a) (Some (digit - 48, rest)) None) ends

no_at : (bytes : List ℕ) → EndsRun is_at bytes → tag_first bytes ≡ None
no_at [] ends = refl
no_at (b ∷ bytes) ends = ap (λ (is : Bool). cond is (session_first bytes) None) ends

-- ---- what stands after it

-- after a tag, all that follows
pub tagged : (front : List ℕ) (session : ℕ) → IsTag front session → (more : List ℕ) → tag_in (front ++ more) ≡ Some (session, more)
tagged front session tag more =
    let whole : front ++ more ≡ tag.blanks ++ 64 ∷ tag.digit ∷ tag.blank ∷ more = ap (λ f. f ++ more) tag.front_is
    ∙ append_assoc tag.blanks (64 ∷ tag.digit ∷ tag.blank ∷ []) more in
    let here : tag_in (tag.blanks ++ 64 ∷ tag.digit ∷ tag.blank ∷ more) ≡ session_first (tag.digit ∷ tag.blank ∷ more) =
    tag_behind tag.blanks (64 ∷ tag.digit ∷ tag.blank ∷ more) tag.are_blanks refl in
    ap tag_in whole ∙ here ∙ session_found tag.digit tag.blank more tag.is_digit tag.ends ∙ ap (λ (s : ℕ). Some (s, more)) (sym tag.session_is)

pub after_tagged : (front : List ℕ) (session : ℕ) → IsTag front session → (more : List ℕ) → after_tag (front ++ more) ≡ more
after_tagged front session tag more = ap (rest_by (front ++ more)) (tagged front session tag more)

-- after blanks and no sign of a session, all
pub untagged : (blanks bytes : List ℕ) → AreBlanks blanks → EndsRun is_blank bytes → EndsRun is_at bytes → tag_in (blanks ++ bytes) ≡ None
untagged blanks bytes are starts plain = tag_behind blanks bytes are starts ∙ no_at bytes plain

pub after_untagged : (blanks bytes : List ℕ) → AreBlanks blanks → EndsRun is_blank bytes → EndsRun is_at bytes → after_tag (blanks ++ bytes) ≡ blanks ++ bytes
after_untagged blanks bytes are starts plain = ap (rest_by (blanks ++ bytes)) (untagged blanks bytes are starts plain)

-- after the sign and no session, all
pub unfinished : (blanks bytes : List ℕ) → AreBlanks blanks → session_first bytes ≡ None → tag_in (blanks ++ 64 ∷ bytes) ≡ None
unfinished blanks bytes are none = let here : tag_in (blanks ++ 64 ∷ bytes) ≡ session_first bytes = tag_behind blanks (64 ∷ bytes) are refl in here ∙ none

pub after_unfinished : (blanks bytes : List ℕ) → AreBlanks blanks → session_first bytes ≡ None → after_tag (blanks ++ 64 ∷ bytes) ≡ blanks ++ 64 ∷ bytes
after_unfinished blanks bytes are none = ap (rest_by (blanks ++ 64 ∷ bytes)) (unfinished blanks bytes are none)

-- ---- where reading stops in it

-- what is read of a name of a session that is not whole, what is left, and how it would go on
pub record Unfinished (bytes : List ℕ) (left : ℕ) : Type 0 where
  pub read : List ℕ
  pub unread : List ℕ
  pub bytes_are : bytes ≡ read ++ unread
  pub left_is : left ≡ length unread
  pub more : List ℕ
  pub digit : ℕ
  pub blank : ℕ
  pub whole : read ++ more ≡ digit ∷ blank ∷ []
  pub is_digit : is_session digit ≡ true
  pub ends : is_blank blank ≡ true
  pub none : (other : List ℕ) → first_byte other ≡ first_byte unread → session_first (read ++ other) ≡ None

pub unfinished_of : (bytes : List ℕ) (left : ℕ) → LeavesSession bytes left → Unfinished bytes left
unfinished_of bytes left (inl (ends, left_is)) = record {
  read = [];
  unread = bytes;
  bytes_are = refl;
  left_is = left_is;
  more = 48 ∷ 32 ∷ [];
  digit = 48;
  blank = 32;
  whole = refl;
  is_digit = refl;
  ends = refl;
  none = λ other same. no_digit other (EndsRun-first_byte is_session bytes other same ends);
}
unfinished_of bytes left (inr (digit, after, bytes_are, is, ends, left_is)) = record {
  read = digit ∷ [];
  unread = after;
  bytes_are = bytes_are;
  left_is = left_is;
  more = 32 ∷ [];
  digit = digit;
  blank = 32;
  whole = refl;
  is_digit = is;
  ends = refl;
  none = λ other same. no_blank_after digit other is (EndsRun-first_byte is_blank after other same ends);
}

-- ---- what is read

-- bytes that begin with the sign
pub at_first : (bytes : List ℕ) → 1 ≤ length bytes → get_or bytes 0 0 ≡ 64 → bytes ≡ 64 ∷ take (length bytes - 1) (drop 1 bytes)
at_first bytes some is = first_and_rest bytes some ∙ ap (λ (b : ℕ). b ∷ take (length bytes - 1) (drop 1 bytes)) is

-- the name of a session, after blanks and the sign
pub reads_tag : (line bytes after : List ℕ) (session : ℕ) (rest : List ℕ) → Takes AnyBlanks tt line bytes → bytes ≡ 64 ∷ after → ReadsSession after session rest
    → ReadsTag line (Some session) rest
reads_tag line bytes after session rest takes at (digit, blank, after_is, is, ends, session_is) =
    let front : List ℕ = takes.prefix ++ 64 ∷ digit ∷ blank ∷ [] in
    let all : bytes ≡ 64 ∷ digit ∷ blank ∷ rest = at ∙ ap (λ (a : List ℕ). 64 ∷ a) after_is in (
      front,
      takes.bytes_are ∙ ap (λ (b : List ℕ). takes.prefix ++ b) all ∙ sym (append_assoc takes.prefix (64 ∷ digit ∷ blank ∷ []) rest),
      record {
        blanks = takes.prefix;
        digit = digit;
        blank = blank;
        front_is = refl;
        are_blanks = takes.is;
        is_digit = is;
        ends = ends;
        session_is = session_is;
      },
    )

-- what was read is what the line names
pub named_is : (line : List ℕ) (session : Option ℕ) (rest : List ℕ) → ReadsTag line session rest → session ≡ named_by (tag_in line)
named_is line None rest (plain, same) =
    sym (ap (λ (l : List ℕ). named_by (tag_in l)) plain.line_is ∙ ap named_by (untagged plain.blanks plain.bytes plain.are_blanks plain.starts plain.plain))
named_is line (Some session) rest (front, whole, tag) = sym (ap (λ (l : List ℕ). named_by (tag_in l)) whole ∙ ap named_by (tagged front session tag rest))

pub rest_is : (line : List ℕ) (session : Option ℕ) (rest : List ℕ) → ReadsTag line session rest → rest ≡ after_tag line
rest_is line None rest (plain, same) =
    same ∙ plain.line_is ∙ sym (ap after_tag plain.line_is ∙ after_untagged plain.blanks plain.bytes plain.are_blanks plain.starts plain.plain)
rest_is line (Some session) rest (front, whole, tag) = sym (ap after_tag whole ∙ after_tagged front session tag rest)

-- a line whose name of a session is not whole names none
names_none : (line : List ℕ) (left : ℕ) → LeavesTag line left → named_by (tag_in line) ≡ None
names_none line left leaves =
    let stop = unfinished_of leaves.bytes left leaves.leaves in
    let none : session_first leaves.bytes ≡ None = ap session_first stop.bytes_are ∙ stop.none stop.unread refl in
    ap (λ (l : List ℕ). named_by (tag_in l)) leaves.line_is ∙ ap named_by (unfinished leaves.blanks leaves.bytes leaves.are_blanks none)

pub names_none_at : (line : List ℕ) (stop : Stop) → StopsWith (LeavesTag line) stop → None ≡ named_by (tag_in line)
names_none_at line stops.Memory leaves = absurd leaves
names_none_at line (stops.Syntax left) leaves = sym (names_none line left leaves)
names_none_at line (stops.Bad kind left) leaves = absurd leaves
