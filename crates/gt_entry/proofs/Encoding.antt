-- Writing the bytes of an entry.
use Rattle.std.proofs.Common.{◌≡◌, ℕ, zero, suc, ◌+◌, ◌-◌, ◌/◌, ◌^◌, ◌<◌, ◌≤◌, Bool, List, [], ◌++◌, length, take}
use Rattle.std.proofs.Common.{drop, replicate, All, append_assoc, append-nil, refl, sym, ap, ◌∙◌, subst, arith}
use Rattle.std.specs.Int.{byte_at, bytes_low_first}
use Rattle.std.proofs.Math.Nat.{mod-lt}
use Rattle.std.proofs.lemmas.List.Elements.{All-nil, All-cons, All-append, All-take, All-drop}
use Rattle.std.proofs.Math.ListN.{drop_of_length-le}
use Rattle.std.proofs.Math.Seq.{drop-append_seam, drop-append-add}
use Rattle.std.proofs.lemmas.List.{take_rest, drop-drop, length-drop, length-append, length-take-le, drop-append-le}
use Rattle.std.proofs.lemmas.List.{take-append-drop}
use Rattle.byteorder.specs.Endian.{little_number, little_bytes}
use Rattle.byteorder.specs.Numbers.{little_number-reads_back, little_from-append, length-bytes_low_first}
use Rattle.gt_types.specs.declared.DomId.{DomId}
use Rattle.gt_types.specs.declared.GrantRef.{GrantRef}
use Rattle.gt_model.specs.declared.entry.Entry.TheVariants.{Page, Sub, Via}
use Rattle.gt_model.specs.Words.{flag}
use Rattle.gt_model.specs.Bytes.{field, with_field, AreBytes, SpellsV1, SpellsV2, IsZeroPadded}

-- a part up to the end of the bytes is read as the bytes starting at its offset
pub read-part : (bytes : List ℕ) (at n : ℕ) → little_number n (take (length bytes - at) (drop at bytes)) ≡ field bytes at n
read-part bytes at n = ap (λ (part : List ℕ). little_number n part) (take_rest bytes at)

-- a number written into a part up to the end of the bytes
pub written-part : (bytes part : List ℕ) (at n number : ℕ) → part ≡ little_bytes n number ++ drop n (take (length bytes - at) (drop at bytes))
    → take at bytes ++ (part ++ drop (length bytes - at) (drop at bytes)) ≡ with_field bytes at n number
written-part bytes part at n number e =
    let tail : drop (length bytes - at) (drop at bytes) ≡ [] = drop_of_length-le (drop at bytes) (omega (arith, length-drop at bytes)) in
    let rest : drop n (take (length bytes - at) (drop at bytes)) ≡ drop (at + n) bytes = ap (λ (part : List ℕ). drop n part) (take_rest bytes at) ∙ drop-drop n at bytes in
    rw (tail, append-nil, e, rest) refl

-- the bytes keep their number
length-with : (bytes : List ℕ) (at n number : ℕ) → at + n ≤ length bytes → length (with_field bytes at n number) ≡ length bytes
length-with bytes at n number fits =
    let a = length-append (take at bytes) (little_bytes n number ++ drop (at + n) bytes) in
    let b = length-append (little_bytes n number) (drop (at + n) bytes) in
    let c = length-take-le at bytes (omega arith) in
    let d = length-drop (at + n) bytes in
    let e = length-bytes_low_first 0 n number in
    omega arith

-- the field holds the number
pub field-there : (bytes : List ℕ) (at n number : ℕ) → at + n ≤ length bytes → number < 256 ^ n → field (with_field bytes at n number) at n ≡ number
field-there bytes at n number fits small =
    let c : length (take at bytes) ≡ at = length-take-le at bytes (omega arith) in
    let rest : drop at (with_field bytes at n number) ≡ little_bytes n number ++ drop (at + n) bytes =
    ap (λ (k : ℕ). drop k (with_field bytes at n number)) (sym c) ∙ drop-append_seam (take at bytes) (little_bytes n number ++ drop (at + n) bytes) in
    ap (λ (xs : List ℕ). little_number n xs) rest ∙ little_number-reads_back n number (drop (at + n) bytes) small

front : (xs ys : List ℕ) (at n : ℕ) → at + n ≤ length xs → field (xs ++ ys) at n ≡ little_number n (drop at xs)
front xs ys at n h =
    ap (λ (zs : List ℕ). little_number n zs) (drop-append-le at xs ys (omega arith))
    ∙ little_from-append n (drop at xs) ys (omega (arith, length-drop at xs))

-- a field before it stays
field-before : (bytes : List ℕ) (at n number at' n' : ℕ) → at ≤ length bytes → at' + n' ≤ at → field (with_field bytes at n number) at' n' ≡ field bytes at' n'
field-before bytes at n number at' n' fits before =
    let long : at' + n' ≤ length (take at bytes) = omega (arith, length-take-le at bytes fits) in
    let old : field bytes at' n' ≡ little_number n' (drop at' (take at bytes)) =
    ap (λ (xs : List ℕ). field xs at' n') (sym (take-append-drop at bytes)) ∙ front (take at bytes) (drop at bytes) at' n' long in
    front (take at bytes) (little_bytes n number ++ drop (at + n) bytes) at' n' long ∙ sym old

-- a field after it stays
field-behind : (bytes : List ℕ) (at n number at' n' : ℕ) → at + n ≤ length bytes → at + n ≤ at' → field (with_field bytes at n number) at' n' ≡ field bytes at' n'
field-behind bytes at n number at' n' fits past =
    let k : ℕ = at' - (at + n) in
    let written : List ℕ = take at bytes ++ little_bytes n number in
    let long : length (take at bytes ++ little_bytes n number) ≡ at + n =
    omega (arith, length-append (take at bytes) (little_bytes n number), length-take-le at bytes (omega arith), length-bytes_low_first 0 n number) in
    let place : at' ≡ length (take at bytes ++ little_bytes n number) + (at' - (at + n)) = omega arith in
    let back : at + n + (at' - (at + n)) ≡ at' = omega arith in
    let rest : drop at' (with_field bytes at n number) ≡ drop at' bytes =
    ap (λ (j : ℕ). drop j (with_field bytes at n number)) place
    ∙ ap (λ (xs : List ℕ). drop (length (take at bytes ++ little_bytes n number) + (at' - (at + n))) xs) (sym (append_assoc (take at bytes) (little_bytes n number) (drop (at + n) bytes)))
    ∙ drop-append-add (take at bytes ++ little_bytes n number) (drop (at + n) bytes) (at' - (at + n))
    ∙ drop-drop (at' - (at + n)) (at + n) bytes
    ∙ ap (λ (j : ℕ). drop j bytes) back in
    ap (λ (xs : List ℕ). little_number n' xs) rest

-- the bytes stay bytes

byte-fits : (i x : ℕ) → byte_at i x < 256
byte-fits zero x = omega arith
byte-fits (suc i) x = mod-lt (x / 256 ^ suc i) (omega arith)

number-fits : (i n x : ℕ) → All (λ byte. byte < 256) (bytes_low_first i n x)
number-fits i zero x = All-nil (λ byte. byte < 256)
number-fits i (suc n) x = All-cons (λ byte. byte < 256) (byte_at i x) (bytes_low_first (suc i) n x) (byte-fits i x) (number-fits (suc i) n x)

stays : (size : ℕ) (bytes : List ℕ) (at n number : ℕ) → AreBytes size bytes → at + n ≤ size → AreBytes size (with_field bytes at n number)
stays size bytes at n number are fits =
    let long : length bytes ≡ size = are.0 in (
      length-with bytes at n number (omega arith) ∙ are.0,
      All-append (λ byte. byte < 256) (take at bytes) (little_bytes n number ++ drop (at + n) bytes) (All-take (λ byte. byte < 256) at bytes are.1)
          (All-append (λ byte. byte < 256) (little_bytes n number) (drop (at + n) bytes) (number-fits 0 n number) (All-drop (λ byte. byte < 256) (at + n) bytes are.1)),
    )

zeros-fit : (n : ℕ) → All (λ byte. byte < 256) (replicate n 0)
zeros-fit zero = All-nil (λ byte. byte < 256)
zeros-fit (suc n) = All-cons (λ byte. byte < 256) 0 (replicate n 0) (omega arith) (zeros-fit n)

zeros-long : (n : ℕ) → length {A = ℕ} (replicate n 0) ≡ n
zeros-long zero = refl
zeros-long (suc n) = let e = zeros-long n in omega arith

pub zeros : (n : ℕ) → AreBytes n (replicate n 0)
zeros n = (zeros-long n, zeros-fit n)

-- one number written, and what it leaves

record Wrote (size : ℕ) (old new : List ℕ) (at n number : ℕ) : Type 0 where
  bytes : AreBytes size new
  here : field new at n ≡ number
  before : (at' n' : ℕ) → at' + n' ≤ at → field new at' n' ≡ field old at' n'
  behind : (at' n' : ℕ) → at + n ≤ at' → field new at' n' ≡ field old at' n'

wrote : (size : ℕ) (old new : List ℕ) (at n number : ℕ) → AreBytes size old → (new ≡ with_field old at n number) × (field new at n ≡ number) → at + n ≤ size → Wrote size old new at n number
wrote size old new at n number are is fits =
    let long : length old ≡ size = are.0 in
    let room : at + n ≤ length old = omega arith in
    let start : at ≤ length old = omega arith in
    record {
      bytes = subst (AreBytes size) (sym is.0) (stays size old at n number are fits);
      here = is.1;
      before = λ at' n' h. ap (λ (xs : List ℕ). field xs at' n') is.0 ∙ field-before old at n number at' n' start h;
      behind = λ at' n' h. ap (λ (xs : List ℕ). field xs at' n') is.0 ∙ field-behind old at n number at' n' room h;
    }

pub v1-encoded : (a b c d : List ℕ) (dom : DomId) (ro : Bool) (frame flags : ℕ) → AreBytes 8 a → flags ≡ 1 + flag ro
    → (b ≡ with_field a 0 2 flags) × (field b 0 2 ≡ flags) → (c ≡ with_field b 2 2 dom.0) × (field c 2 2 ≡ dom.0) → (d ≡ with_field c 4 4 frame) × (field d 4 4 ≡ frame) → SpellsV1 d (Page dom ro frame)
v1-encoded a b c d dom ro frame flags are is first second third =
    let x = wrote 8 a b 0 2 flags are first (omega arith) in
    let y = wrote 8 b c 2 2 dom.0 x.bytes second (omega arith) in
    let z = wrote 8 c d 4 4 frame y.bytes third (omega arith) in
    record {
      size = z.bytes;
      layout = (z.before 0 2 (omega arith) ∙ y.before 0 2 (omega arith) ∙ x.here ∙ is, z.before 2 2 (omega arith) ∙ y.here, z.here);
    }

pub v2-page-encoded : (a b c d : List ℕ) (dom : DomId) (ro : Bool) (frame flags : ℕ) → AreBytes 16 a → field a 4 4 ≡ 0 → flags ≡ 1 + flag ro
    → (b ≡ with_field a 0 2 flags) × (field b 0 2 ≡ flags) → (c ≡ with_field b 2 2 dom.0) × (field c 2 2 ≡ dom.0) → (d ≡ with_field c 8 8 frame) × (field d 8 8 ≡ frame) → SpellsV2 d (Page dom ro frame) × IsZeroPadded d (Page dom ro frame)
v2-page-encoded a b c d dom ro frame flags are zero_there is first second third =
    let x = wrote 16 a b 0 2 flags are first (omega arith) in
    let y = wrote 16 b c 2 2 dom.0 x.bytes second (omega arith) in
    let z = wrote 16 c d 8 8 frame y.bytes third (omega arith) in (
      record {
        size = z.bytes;
        layout = (z.before 0 2 (omega arith) ∙ y.before 0 2 (omega arith) ∙ x.here ∙ is, z.before 2 2 (omega arith) ∙ y.here, z.here);
      },
      z.before 4 4 (omega arith) ∙ y.behind 4 4 (omega arith) ∙ x.behind 4 4 (omega arith) ∙ zero_there,
    )

pub v2-sub-encoded : (a b c d e f : List ℕ) (dom : DomId) (ro : Bool) (frame off len flags : ℕ) → AreBytes 16 a → flags ≡ 257 + flag ro
    → (b ≡ with_field a 0 2 flags) × (field b 0 2 ≡ flags) → (c ≡ with_field b 2 2 dom.0) × (field c 2 2 ≡ dom.0) → (d ≡ with_field c 4 2 off) × (field d 4 2 ≡ off) → (e ≡ with_field d 6 2 len) × (field e 6 2 ≡ len) → (f ≡ with_field e 8 8 frame) × (field f 8 8 ≡ frame) → SpellsV2 f (Sub dom ro frame off len)
v2-sub-encoded a b c d e f dom ro frame off len flags are is first second third fourth fifth =
    let x = wrote 16 a b 0 2 flags are first (omega arith) in
    let y = wrote 16 b c 2 2 dom.0 x.bytes second (omega arith) in
    let z = wrote 16 c d 4 2 off y.bytes third (omega arith) in
    let v = wrote 16 d e 6 2 len z.bytes fourth (omega arith) in
    let w = wrote 16 e f 8 8 frame v.bytes fifth (omega arith) in
    record {
      size = w.bytes;
      layout = (
        w.before 0 2 (omega arith) ∙ v.before 0 2 (omega arith) ∙ z.before 0 2 (omega arith) ∙ y.before 0 2 (omega arith) ∙ x.here ∙ is,
        w.before 2 2 (omega arith) ∙ v.before 2 2 (omega arith) ∙ z.before 2 2 (omega arith) ∙ y.here,
        w.before 4 2 (omega arith) ∙ v.before 4 2 (omega arith) ∙ z.here,
        w.before 6 2 (omega arith) ∙ v.here,
        w.here,
      );
    }

pub v2-via-encoded : (a b c d e : List ℕ) (dom dom2 : DomId) (gref : GrantRef) (ro : Bool) (flags : ℕ) → AreBytes 16 a → field a 6 2 ≡ 0 → field a 12 4 ≡ 0 → flags ≡ 3 + flag ro
    → (b ≡ with_field a 0 2 flags) × (field b 0 2 ≡ flags) → (c ≡ with_field b 2 2 dom.0) × (field c 2 2 ≡ dom.0) → (d ≡ with_field c 4 2 dom2.0) × (field d 4 2 ≡ dom2.0) → (e ≡ with_field d 8 4 gref.0) × (field e 8 4 ≡ gref.0) → SpellsV2 e (Via dom ro dom2 gref) × IsZeroPadded e (Via dom ro dom2 gref)
v2-via-encoded a b c d e dom dom2 gref ro flags are zero_there zero_behind is first second third fourth =
    let x = wrote 16 a b 0 2 flags are first (omega arith) in
    let y = wrote 16 b c 2 2 dom.0 x.bytes second (omega arith) in
    let z = wrote 16 c d 4 2 dom2.0 y.bytes third (omega arith) in
    let w = wrote 16 d e 8 4 gref.0 z.bytes fourth (omega arith) in (
      record {
        size = w.bytes;
        layout = (
          w.before 0 2 (omega arith) ∙ z.before 0 2 (omega arith) ∙ y.before 0 2 (omega arith) ∙ x.here ∙ is,
          w.before 2 2 (omega arith) ∙ z.before 2 2 (omega arith) ∙ y.here,
          w.before 4 2 (omega arith) ∙ z.here,
          w.here,
        );
      },
      (
        w.before 6 2 (omega arith) ∙ z.behind 6 2 (omega arith) ∙ y.behind 6 2 (omega arith) ∙ x.behind 6 2 (omega arith) ∙ zero_there,
        w.behind 12 4 (omega arith) ∙ z.behind 12 4 (omega arith) ∙ y.behind 12 4 (omega arith) ∙ x.behind 12 4 (omega arith) ∙ zero_behind,
      ),
    )
