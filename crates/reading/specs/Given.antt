-- What the contracts of the readers say.
use Rattle.std.specs.Prelude.{ℕ, ◌+◌, ◌-◌, ◌*◌, ◌<◌, ◌≤◌, ◌≡◌, Bool, List, [], ◌∷◌, ◌++◌, length, drop, Option, None, Some}
use denote.Ref.{Bor}
use Rattle.std.proofs.Math.Option as math
use Rattle.std.proofs.Math.Option.{none, some}
use Rattle.ident.specs.Number.{Key, Item}
use Rattle.ident.specs.Words.{hash_bytes}
use Rattle.words.specs.Words.{number, recs}
use Rattle.regions.specs.Rows.{quad_number}
use Rattle.machine.specs.Call.{Ask, On}
use Rattle.lent_lists.specs.Lists.{hashes_in}
use Rattle.machine.specs.Fields.{before, rest, taking, ending, elements_then}
use Rattle.lines.specs.Values.{value_in, named_key, named_item}
use Rattle.lines.specs.declared.read.Named.{Named}
use Rattle.ident.specs.declared.Kind.{Kind}
use Rattle.ident.specs.declared.ItemKind.{ItemKind}
use Rattle.regions.specs.declared.Quad.{Quad}
use Rattle.reading.specs.declared.fields.Parsed.{Parsed}
use Rattle.reading.specs.declared.forms.Values as forms
use Rattle.reading.specs.Line.{Line, Asks, Reader, list_then}
use Rattle.reading.specs.Forms.{Values, blank, Then, field_then, form_then}
use Rattle.reading.specs.Lists.{list_call}

-- ---- fields

-- a field's value, and the index where the field ends
pub record At (A : Type 0) : Type 0 where
  pub value : A
  pub end : ℕ

-- the bytes of the field behind the comma at index e
abbrev pub text_at : List ℕ → ℕ → List ℕ
text_at l e = before 44 (drop (e + 1) l)

abbrev pub Answered : {T : Type 0} → (List ℕ → Option T → Type 0) → List ℕ → ℕ → Option (Parsed T) → Type 0
Answered Answers l e None = e < length l → Answers (text_at l e) None
Answered Answers l e (Some p) = (e < length l) × (p.end ≡ e + 1 + length (text_at l e)) × Answers (text_at l e) (Some p.value)

-- the field behind the comma at index e is what a reader answers of its bytes; `Answers f r`: the reader may answer r of f
pub record FieldParsed {T : Type 0} (Answers : List ℕ → Option T → Type 0) (l : List ℕ) (e : ℕ) (r : Option (Parsed T)) : Type 0 where
  pub is : Answered Answers l e r

-- what an answer says, by the value that f says its own stands for
abbrev pub parsed_in : {T A : Type 0} → (T → A) → Option (Parsed T) → math.Option (At A)
parsed_in f o = value_in (λ p. record { value = f p.value; end = p.end }) o

abbrev pub number_at : Option (Parsed ℕ) → math.Option (At ℕ)
number_at o = parsed_in (λ n. n) o

abbrev pub bool_at : Option (Parsed Bool) → math.Option (At Bool)
bool_at o = parsed_in (λ b. b) o

abbrev pub hash_at : Option (Parsed Quad) → math.Option (At ℕ)
hash_at o = parsed_in quad_number o

abbrev pub key_at : Option (Parsed (Named Kind)) → math.Option (At Key)
key_at o = parsed_in named_key o

abbrev pub item_at : Option (Parsed (Named ItemKind)) → math.Option (At Item)
item_at o = parsed_in named_item o

-- what k makes of the value and of the fields behind it
abbrev pub then_of : {A : Type 0} → List ℕ → (A → List (List ℕ) → math.Option Line) → math.Option (At A) → math.Option Line
then_of l k none = none
then_of l k (some a) = k a.value (rest l (a.end + 1))

-- what stands behind the comma at index e, which `read` says to be o: a field, or several
pub record ElementRead {A : Type 0} (read : Reader A) (l : List ℕ) (e : ℕ) (o : math.Option (At A)) : Type 0 where
  pub is : (k : A → List (List ℕ) → math.Option Line) → read k (rest l (e + 1)) ≡ then_of l k o

abbrev pub FieldRead : {A : Type 0} → (List ℕ → math.Option A) → List ℕ → ℕ → math.Option (At A) → Type 0
FieldRead read l e o = ElementRead (taking read) l e o

-- ---- forms

abbrev pub values_of : forms.Values → Values
values_of v = record {
  kind = v.kind;
  item = v.item;
  hash = quad_number v.hash;
  combined = quad_number v.combined;
  connection = v.connection;
  now = v.clock;
  ready = v.ready;
  priority = v.priority;
  preferred = v.preferred;
  source = v.source;
}

-- what k makes of the values and of the fields behind them
abbrev pub then_values : List ℕ → Then → Option (Parsed forms.Values) → math.Option Line
then_values l k o = then_of l k (parsed_in values_of o)

-- one field more, of the letter f
pub record FieldTaken (l : List ℕ) (e f : ℕ) (v : Values) (r : Option (Parsed forms.Values)) : Type 0 where
  pub is : (k : Then) → field_then f v k (rest l (e + 1)) ≡ then_values l k r

-- the fields of a form behind the comma at index e
pub record FormRead (l : List ℕ) (e : ℕ) (form : List ℕ) (r : Option (Parsed forms.Values)) : Type 0 where
  pub is : (k : Then) → form_then form blank k (rest l (e + 1)) ≡ then_values l k r

-- what `line` makes of the values
abbrev pub whole_line : (Values → Line) → Option forms.Values → math.Option Line
whole_line line o = value_in (λ v. line (values_of v)) o

-- the fields of a form, and nothing behind them
pub record WholeRead (l : List ℕ) (e : ℕ) (form : List ℕ) (r : Option forms.Values) : Type 0 where
  pub is : (line : Values → Line) → form_then form blank (λ v. ending (some (line v))) (rest l (e + 1)) ≡ whole_line line r

-- ---- lists

abbrev pub longest_line : ℕ
longest_line = 65536

-- of the n elements behind the comma at index e the first i are those of xs; the last field of these ends at index to
pub record ElementsRead {A : Type 0} (read : Reader A) (l : List ℕ) (e n to i : ℕ) (xs : List A) : Type 0 where
  pub is : (k : List A → List (List ℕ) → math.Option Line) → elements_then read n [] k (rest l (e + 1)) ≡ elements_then read (n - i) xs k (rest l (to + 1))

abbrev pub ElementsAs : {A : Type 0} → Reader A → List ℕ → ℕ → ℕ → List A → Option ℕ → Type 0
ElementsAs {A} read l e n xs None = (k : List A → List (List ℕ) → math.Option Line) → elements_then read n [] k (rest l (e + 1)) ≡ none
ElementsAs read l e n xs (Some to) = ElementsRead read l e n to n xs

-- the n elements behind the comma at index e
pub record ListRead {A : Type 0} (read : Reader A) (l : List ℕ) (e n : ℕ) (xs : List A) (r : Option ℕ) : Type 0 where
  pub is : ElementsAs read l e n xs r

-- x stands in the bytes as one record more, behind i others
pub record Stored {A : Type 0} (size : ℕ) (f : List ℕ → A) (b b' : List ℕ) (i : ℕ) (x : A) : Type 0 where
  pub is : recs size f (i + 1) b' ≡ recs size f i b ++ (x ∷ [])

-- the element behind the comma at index e ends at index to, and stands in the bytes as the i-th
pub record ElementHeld {A : Type 0} (read : Reader A) (size : ℕ) (f : List ℕ → A) (l : List ℕ) (e i : ℕ) (b b' : List ℕ) (to : ℕ) : Type 0 where
  pub value : A
  pub found : ElementRead read l e (some (record { value = value; end = to }))
  pub stored : Stored size f b b' i value

abbrev pub TakenAs : {A : Type 0} → Reader A → ℕ → (List ℕ → A) → List ℕ → ℕ → ℕ → List ℕ → List ℕ → Option ℕ → Type 0
TakenAs read size f l e i b b' None = ElementRead read l e none
TakenAs read size f l e i b b' (Some to) = ElementHeld read size f l e i b b' to

-- the element behind the comma at index e, taken into the bytes as the i-th
pub record Taken {A : Type 0} (read : Reader A) (size : ℕ) (f : List ℕ → A) (l : List ℕ) (e i : ℕ) (b b' : List ℕ) (r : Option ℕ) : Type 0 where
  pub is : TakenAs read size f l e i b b' r

-- the bytes of fields, a comma counted with each
unfoldable pub bytes : List (List ℕ) → ℕ
bytes [] = 0
bytes (f ∷ fs) = length f + 1 + bytes fs

-- what is read has w bytes or more, its commas counted
pub record Takes {A : Type 0} (read : Reader A) (w : ℕ) : Type 0 where
  pub is : (k : A → List (List ℕ) → math.Option Line) (fs : List (List ℕ)) → ((x : A) (gs : List (List ℕ)) → bytes gs + w ≤ bytes fs → k x gs ≡ none) → read k fs ≡ none

-- nothing is made of a line's list, whatever it is for
abbrev pub NoList : {A : Type 0} → Reader A → List ℕ → ℕ → Type 0
NoList {A} read l e = (line : List A → Line) → list_then read line (rest l (e + 1)) ≡ none

-- the list is xs, whatever it is for
abbrev pub IsList : {A : Type 0} → Reader A → List ℕ → ℕ → List A → Type 0
IsList {A} read l e xs = (line : List A → Line) → list_then read line (rest l (e + 1)) ≡ some (line xs)

-- the list behind the comma at index e: the first n records of the bytes b. Where it is refused, there is none, if the line is too short for more than `most`.
abbrev pub FrontAs : {A : Type 0} → Reader A → ℕ → (List ℕ → A) → List ℕ → ℕ → ℕ → List ℕ → Option ℕ → Type 0
FrontAs read size f l e most b None = (w : ℕ) → Takes read w → length l < w * (most + 1) → NoList read l e
FrontAs read size f l e most b (Some n) = (n ≤ most) × IsList read l e (recs size f n b)

pub record FrontList {A : Type 0} (read : Reader A) (size : ℕ) (f : List ℕ → A) (l : List ℕ) (e most : ℕ) (b : List ℕ) (r : Option ℕ) : Type 0 where
  pub is : FrontAs read size f l e most b r

-- the list behind the comma at index e: its bytes, n records of `size` bytes. Where it is refused, there is none, if the line is too short for more than `most`.
abbrev pub WholeAs : {A : Type 0} → Reader A → ℕ → (List ℕ → A) → List ℕ → ℕ → ℕ → Option (Bor (List ℕ)) → Type 0
WholeAs read size f l e most None = (w : ℕ) → Takes read w → length l < w * (most + 1) → NoList read l e
WholeAs read size f l e most (Some s) = (n : ℕ) × (n ≤ most) × (length s.now ≡ n * size) × IsList read l e (recs size f n s.now)

pub record WholeList {A : Type 0} (read : Reader A) (size : ℕ) (f : List ℕ → A) (l : List ℕ) (e most : ℕ) (r : Option (Bor (List ℕ))) : Type 0 where
  pub is : WholeAs read size f l e most r

-- ---- a list of hashes

-- a line of 65,536 bytes has at most 32,768 hashes: each has at least two bytes, its comma counted
abbrev pub most_hashes : ℕ
most_hashes = 32768

abbrev pub stored_bytes : ℕ
stored_bytes = 1048576

-- the first n hashes of bytes
abbrev pub hashes_of : ℕ → List ℕ → List ℕ
hashes_of n b = recs hash_bytes (number 256) n b

-- the list behind the comma at index e: the first n hashes of the bytes b
abbrev pub HashesFrontAs : List ℕ → ℕ → List ℕ → Option ℕ → Type 0
HashesFrontAs l e b None = (ask : List ℕ → Ask) → list_call ask (rest l (e + 1)) ≡ none
HashesFrontAs l e b (Some n) = (n ≤ most_hashes) × ((ask : List ℕ → Ask) → list_call ask (rest l (e + 1)) ≡ some (Asks (On (ask (hashes_of n b)))))

pub record HashesFront (l : List ℕ) (e : ℕ) (b : List ℕ) (r : Option ℕ) : Type 0 where
  pub is : HashesFrontAs l e b r

-- the list behind the comma at index e
abbrev pub HashesAs : List ℕ → ℕ → Option (Bor (List ℕ)) → Type 0
HashesAs l e None = (ask : List ℕ → Ask) → list_call ask (rest l (e + 1)) ≡ none
HashesAs l e (Some s) = (length s.now ≤ stored_bytes) × ((ask : List ℕ → Ask) → list_call ask (rest l (e + 1)) ≡ some (Asks (On (ask (hashes_in s.now)))))

pub record HashesGiven (l : List ℕ) (e : ℕ) (r : Option (Bor (List ℕ))) : Type 0 where
  pub is : HashesAs l e r
