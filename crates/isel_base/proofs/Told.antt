-- What is told of a source and of a sink, over the pieces of one file or one text.
use Rattle.std.proofs.Common.{◌≡◌, ℕ, suc, ◌+◌, ◌-◌, ◌<◌, ◌≤◌, List, ◌++◌, length, take, drop, Option, Some, None}
use Rattle.std.proofs.Common.{option_map, Ok, IfSome, ap, ◌∙◌, sym, append_assoc, arith, length-append, length-drop}
use Rattle.std.proofs.Math.Seq.{take-add}
use Rattle.std.proofs.lemmas.List.{take_all, length-take-le}
use Rattle.isel_base.specs.Outside.{IsReadAt, IsFront, GotMore, ReadsOnly}

-- the slice from n to the end
pub rest_from : (bytes : List ℕ) (n : ℕ) → take (length bytes - n) (drop n bytes) ≡ drop n bytes
rest_from bytes n = take_all (length bytes - n) (drop n bytes) (omega (arith, length-drop n bytes))

-- a put after the first n bytes appends the next of them
told_next : (bytes : List ℕ) (n c : ℕ) (old mid new : Option (List ℕ)) → mid ≡ option_map (λ w. w ++ take n bytes) old
    → new ≡ option_map (λ w. w ++ take c (drop n bytes)) mid → new ≡ option_map (λ w. w ++ take (n + c) bytes) old
told_next bytes n c None mid new m t = t ∙ ap (option_map (λ w. w ++ take c (drop n bytes))) m
told_next bytes n c (Some w) mid new m t =
    t ∙ ap (option_map (λ w. w ++ take c (drop n bytes))) m
    ∙ ap Some (append_assoc w (take n bytes) (take c (drop n bytes)) ∙ ap (λ p. w ++ p) (sym (take-add n c bytes)))

pub told_after : (bytes : List ℕ) (n c : ℕ) (old mid new : Option (List ℕ))
    → mid ≡ option_map (λ w. w ++ take n bytes) old
    → new ≡ option_map (λ w. w ++ take c (take (length bytes - n) (drop n bytes))) mid
    → new ≡ option_map (λ w. w ++ take (n + c) bytes) old
told_after bytes n c old mid new m t =
    told_next bytes n c old mid new m (t ∙ ap (λ rest. option_map (λ w. w ++ take c rest) mid) (rest_from bytes n))

-- a read from the end of what was got goes on with the file
pub got_more : (all old buffer : List ℕ) (n : ℕ) → n ≤ length buffer → 0 < length buffer
    → IsReadAt all (length old) buffer n → IsFront all old
    → IsFront all (old ++ take n buffer) × (n ≡ 0 → old ++ take n buffer ≡ all)
got_more all old buffer n within some read front = (grown, at_end)
  where
    grown_to : old ++ take n buffer ≡ take (length old + n) all
    grown_to =
        ap (λ b. old ++ b) read.bytes ∙ ap (λ b. b ++ take n (drop (length old) all)) front
        ∙ sym (take-add (length old) n all)

    grown : IsFront all (old ++ take n buffer)
    grown =
        grown_to ∙ ap (λ m. take m all)
        (sym (length-append old (take n buffer) ∙ ap (λ m. length old + m) (length-take-le n buffer within)))

    at_end : n ≡ 0 → old ++ take n buffer ≡ all
    at_end none = grown_to ∙ take_all (length old + n) all (omega (arith, (read.end some).0 none))

pub told_more : (E : Type 0) (told : Option (List ℕ)) (old buffer new : List ℕ) (n place : ℕ) → n ≤ length buffer
    → 0 < length buffer
    → new ≡ old ++ take n buffer → place ≡ length old → IfSome told (λ all. IsReadAt all place buffer n)
    → IfSome told (λ all. GotMore {E = E} all old (Ok n) new)
told_more E None old buffer new n place within some grown at_end read = tt
told_more E (Some all) old buffer new n place within some grown at_end read =
    λ front. let more = got_more all old buffer n within some (rw (← at_end) read) front in rw grown more

-- one more read of the name
pub read_more : {S : Type 0} (leaves : S → List ℕ → S → Type 0) (name : List ℕ) (old mid new : S)
    → ReadsOnly leaves name old mid
    → leaves mid name new → ReadsOnly leaves name old new
read_more leaves name old mid new (n, reads) more = (suc n, (mid, reads, more))
