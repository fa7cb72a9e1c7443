-- The binary form: what is read is the configuration that it spells, and what is spelled is read.
use Rattle.std.proofs.Common.{◌≡◌, ◌≢◌, ℕ, suc, ◌+◌, ◌-◌, ◌^◌, ◌<◌, ◌≤◌, Bool, true, false, cond, ltb, List, [], ◌∷◌, ◌++◌, length, take, drop, codes, Option, Some, None, Ok, Err, refl, sym, ap, subst, ◌∙◌, append_assoc, arith}
use Rattle.std.specs.Prelude.{◌==◌}
use Rattle.std.specs.Int.{w32, from_be_bytes}
use Rattle.std.proofs.Math.Seq.{take-append_seam, take-append-add}
use Rattle.std.proofs.lemmas.Bool.{ltb-false, le-ltb, lt-ltb}
use Rattle.std.proofs.lemmas.Bool.Decides.{nat_tests}
use Rattle.std.proofs.lemmas.List.{append-nil, length-append, nil_from_length}
use Rattle.std.proofs.lemmas.Nat.{from_be_bytes-to_be_bytes_4}
use Rattle.xm_base.specs.Bytes.{AreBytes}
use Rattle.xm_base.specs.Cursor.{Place, ahead, left, cursor_start}
use Rattle.xm_conf.specs.Configuration.{Conf}
use Rattle.xm_conf.specs.declared.link.Link.{Link}
use Rattle.xm_conf.specs.Description.{described}
use Rattle.xm_conf.specs.Laws.{IsBrokenUnlessFits}
use Rattle.xm_conf.specs.Rules.{first_broken}
use Rattle.xm_conf.specs.declared.item.Broken.{Broken}
use Rattle.file_headers.specs.lemmas.FieldLemmas.{Reads, Takes, bytes_again, takes_both}
use Rattle.file_headers.specs.lemmas.HeadLemmas.{magic_takes}
use Rattle.file_headers.specs.Heads.{magic_at}
use Rattle.file_headers.specs.lemmas.StepLemmas.{led_on, ok_is, stepped}
use Rattle.file_headers.specs.Steps.{◌>>=◌}
use Rattle.bin_config.specs.Laws.{IsPrefixFree, ReadIsSpelled, SpelledIsRead, OtherIsRefused, MoreIsTrailing, CutIsShort, FitsItsLength}
use Rattle.bin_config.specs.Reading.{half_word_at, or_version, wanted_version_at, is_whole, head_at, conf_body_at, nothing_left, unbroken, fields_at, read_within, conf_short, word_field_at}
use Rattle.bin_config.specs.Spelled.{IsSpelledConf, AreSpelledLinks}
use Rattle.bin_config.specs.Version.{version_number, parts_in_version, version_numbered, wanted, IsWanted, MayHaveLinks}
use Rattle.bin_config.specs.Xmc.{half_word, word_field, text_field, list_field, region_record, plan_record, part_record, chan, links, body, head, xmc}
use Rattle.bin_config.specs.lemmas.FieldLemmas.{IsReaderOf, half_word_spells, word_spells}
use Rattle.bin_config.specs.lemmas.FrontLemmas.{Reached, first, then}
use Rattle.bin_config.specs.lemmas.RangeLemmas.{spelled_if_fits}
use Rattle.bin_config.specs.lemmas.RecordLemmas.{conf_spells}
use Rattle.bin_config.specs.lemmas.ShortLemmas.{body_short}
use Rattle.fault_messages.specs.declared.fault.XmcFault.TheVariants as fault
use Rattle.bin_config.specs.declared.version.Version.{Version}
use Rattle.bin_config.specs.declared.version.Version.TheVariants as version

-- the length of the first fields
length-head : (v : Version) (size : ℕ) (rest : List ℕ) → length (head v size ++ rest) ≡ 10 + length rest
unfolding head
length-head v size rest = let n : ℕ = length rest in let e : suc (suc (suc (suc (suc (suc (suc (suc (suc (suc n))))))))) ≡ 10 + n = omega arith in e

-- the length of a file
pub length-xmc : (v : Version) (conf : Conf) → length (xmc v conf) ≡ 10 + length (body v conf)
unfolding xmc
length-xmc v conf = length-head v (10 + length (body v conf)) (body v conf)

-- the fields before the links, in which alone the two versions differ
abbrev before_links : Conf → List ℕ
before_links conf =
    text_field conf.name ++ list_field region_record conf.regions ++ word_field conf.hv_size ++ list_field text_field conf.uarts ++ list_field plan_record conf.plans
    ++ list_field part_record conf.parts ++ list_field chan conf.chans

-- the length of the fields
length-body : (v : Version) (conf : Conf) → length (body v conf) ≡ length (before_links conf) + length (links v conf.links)
unfolding body
length-body v conf = length-append (before_links conf) (links v conf.links)

-- a file of version 1 is no longer than that of version 2
pub one_is_short : (conf : Conf) → length (xmc version.One conf) ≤ length (xmc version.Two conf)
one_is_short conf =
    omega (arith, length-xmc version.One conf, length-xmc version.Two conf, length-body version.One conf, length-body version.Two conf)

-- the word after the first six bytes
abbrev length_word : List ℕ → ℕ
length_word bytes = from_be_bytes w32 (take 4 (drop 6 bytes))

-- a file states its length
total_at-head : (v : Version) (total : ℕ) (rest : List ℕ) → total < 2 ^ 32 → length_word (head v total ++ rest) ≡ total
unfolding head
total_at-head v total rest below = from_be_bytes-to_be_bytes_4 total below

-- no spelling has another one as its prefix
pub prefix_free : IsPrefixFree
unfolding xmc
prefix_free v w a b rest below is =
    let own_a : length (xmc v a) ≡ 10 + length (body v a) = length-xmc v a in
    let own_b : length (xmc w b) ≡ 10 + length (body w b) = length-xmc w b in
    let sum : length (xmc w b) ≡ length (xmc v a) + length rest = ap length is ∙ length-append (xmc v a) rest in
    let stated_b : length_word (xmc w b) ≡ 10 + length (body w b) = total_at-head w (10 + length (body w b)) (body w b) (omega arith) in
    let stated_a : length_word (xmc v a ++ rest) ≡ 10 + length (body v a) =
    ap length_word (append_assoc (head v (10 + length (body v a))) (body v a) rest) ∙ total_at-head v (10 + length (body v a)) (body v a ++ rest) (omega arith) in
    let same : 10 + length (body w b) ≡ 10 + length (body v a) = sym stated_b ∙ ap length_word is ∙ stated_a in
    nil_from_length rest (omega arith)

-- a list with something in it
some_length : (xs : List ℕ) → xs ≢ [] → 0 < length xs
some_length [] is = absurd (is refl)
some_length (x ∷ xs) is = omega arith

-- a length that is at least that of the first fields
front_is : (v : Version) (size count : ℕ) → 10 ≤ count → count ≡ length (head v size) + (count - 10)
unfolding head
front_is v size count long = omega (arith, long)

-- a file of as many bytes as it states
text_of_whole : (v : Version) (bytes : List ℕ) (conf : Conf) → bytes ≡ head v (length bytes) ++ body v conf → bytes ≡ xmc v conf
unfolding xmc
text_of_whole v bytes conf parts = parts ∙ ap (λ size. head v size ++ body v conf) (ap length parts ∙ length-head v (length bytes) (body v conf))

-- the parts of a file, and of a longer one
xmc_is : (v : Version) (conf : Conf) (rest : List ℕ)
    → (xmc v conf ≡ head v (10 + length (body v conf)) ++ body v conf) × (xmc v conf ++ rest ≡ head v (10 + length (body v conf)) ++ (body v conf ++ rest))
unfolding xmc
xmc_is v conf rest = (refl, append_assoc (head v (10 + length (body v conf))) (body v conf) rest)

-- the name of the format, where it stands
magic_again : (place : Place) (rest : List ℕ) → ahead place ≡ codes "XMCF" ++ rest → Reached (magic_at conf_short fault.Magic (codes "XMCF") place) (λ after. Ok after) rest
unfolding magic_at
magic_again place rest is =
    let b = bytes_again conf_short 4 place (codes "XMCF") rest refl is in
    record { after = b.after; is = rw b.is refl; ahead = b.ahead }

-- a version that was found
had_version : (n : ℕ) (following : Place) (found : Option Version) (v : Version) (after : Place) → or_version n following found ≡ Ok (v, after) → (found ≡ Some v) × (following ≡ after)
had_version n following (Some w) v after e = let same : (w, following) ≡ (v, after) = ok_is (w, following) (v, after) e in (ap (λ p. Some p.0) same, ap (λ p. p.1) same)
had_version n following None v after e = absurd cc

-- the version that was found is the one of the number
found_is : (w v : Version) → (let found : Option Version = Some w in found ≡ Some v) → w ≡ v
found_is w v e = cc

-- the version of a number has that number
pub numbered_there : (n : ℕ) (v : Version) → version_numbered n ≡ Some v → n ≡ version_number v
numbered_there n v e = at (n == 1) refl (n == 2) refl e
  where
    at : (a : Bool) → (n == 1) ≡ a → (b : Bool) → (n == 2) ≡ b → cond a (Some version.One) (cond b (Some version.Two) None) ≡ Some v → n ≡ version_number v
    at true one b other found =
        let is : n ≡ 1 = grind (arith, nat_tests) in
        subst (λ (w : Version). n ≡ version_number w) (found_is version.One v found) is
    at false one true two found =
        let is : n ≡ 2 = grind (arith, nat_tests) in
        subst (λ (w : Version). n ≡ version_number w) (found_is version.Two v found) is
    at false one false two found = absurd cc

-- a version of a number that is wanted
wanted_there : (want : Option Version) (n : ℕ) (v : Version) → wanted want n ≡ Some v → (n ≡ version_number v) × IsWanted want v
wanted_there None n v e = (numbered_there n v e, tt)
wanted_there (Some w) n v e = at (n == version_number w) refl e
  where
    at : (a : Bool) → (n == version_number w) ≡ a → cond a (Some w) None ≡ Some v → (n ≡ version_number v) × (w ≡ v)
    at true test found =
        let is : n ≡ version_number w = grind (arith, nat_tests) in
        let same : w ≡ v = found_is w v found in
        (is ∙ ap version_number same, same)
    at false test found = absurd cc

-- a version is that of its number
pub numbered_back : (v : Version) → version_numbered (version_number v) ≡ Some v
numbered_back version.One = refl
numbered_back version.Two = refl

-- the number of a version that is wanted is taken
wanted_back : (want : Option Version) (v : Version) → IsWanted want v → wanted want (version_number v) ≡ Some v
wanted_back None version.One is = refl
wanted_back None version.Two is = refl
wanted_back (Some version.One) version.One is = refl
wanted_back (Some version.Two) version.Two is = refl
wanted_back (Some version.One) version.Two is = absurd cc
wanted_back (Some version.Two) version.One is = absurd cc

-- the number of another version is not
wanted_other : (v w : Version) → v ≢ w → wanted (Some v) (version_number w) ≡ None
wanted_other version.One version.One differ = absurd (differ refl)
wanted_other version.One version.Two differ = refl
wanted_other version.Two version.One differ = refl
wanted_other version.Two version.Two differ = absurd (differ refl)

-- the number of a version has two bytes
pub number_small : (v : Version) → version_number v < 2 ^ 16
number_small version.One = omega arith
number_small version.Two = omega arith

-- the version that is read
conf_version_takes : (want : Option Version) (place : Place) (v : Version) (after : Place) → AreBytes (ahead place) → wanted_version_at want place ≡ Ok (v, after)
    → Takes place (half_word (version_number v)) after × IsWanted want v
unfolding wanted_version_at
conf_version_takes want place v after each e =
    let n = stepped (half_word_at place) (λ n. or_version n.0 n.1 (wanted want n.0)) (v, after) e in
    let t = half_word_spells.takes place n.value.0 n.value.1 each n.is in
    let h = had_version n.value.0 n.value.1 (wanted want n.value.0) v after n.led in
    let is = wanted_there want n.value.0 v h.0 in
    (subst (λ (m : ℕ). Takes place (half_word m) after) is.0 (subst (λ (following : Place). Takes place (half_word n.value.0) following) h.1 t.0), is.1)

-- the version, where it stands
conf_version_again : (want : Option Version) (place : Place) (v : Version) (rest : List ℕ) → IsWanted want v → ahead place ≡ half_word (version_number v) ++ rest → Reads (wanted_version_at want place) v rest
unfolding wanted_version_at
conf_version_again want place v rest wants is =
    let r = half_word_spells.again place (version_number v) rest (number_small v) is in
    record { after = r.after; is = rw (r.is, wanted_back want v wants) refl; ahead = r.ahead }

-- the version
version_spells : (want : Option Version) → IsReaderOf (wanted_version_at want) (λ v. half_word (version_number v)) (IsWanted want)
version_spells want = record { takes = conf_version_takes want; again = conf_version_again want }

-- the first fields that are read: there are as many bytes as the length field states
head_takes : (want : Option Version) (bytes : List ℕ) (got : Version × Place) → AreBytes bytes → head_at want (cursor_start bytes) ≡ Ok got
    → Takes (cursor_start bytes) (head got.0 (length bytes)) got.1 × IsWanted want got.0
unfolding head_at head
head_takes want bytes got each e =
    let m = stepped (magic_at conf_short fault.Magic (codes "XMCF") (cursor_start bytes)) (λ named.
    wanted_version_at want named >>= λ version. word_field_at version.1 >>= λ stated. is_whole (length bytes) stated.0 >>= λ all. Ok (version.0, stated.1)) got e in
    let named = magic_takes conf_short fault.Magic (codes "XMCF") (cursor_start bytes) m.value each m.is in
    let fields = then (first (version_spells want)) word_spells in
    let o = fields.takes (Version × Place) (λ t following. is_whole (length bytes) t.1 >>= λ all. Ok (t.0, following)) m.value got named.rest m.led in
    let w = stepped (is_whole (length bytes) o.value.1) (λ all. Ok (o.value.0, o.after)) got o.led in
    let size : o.value.1 ≡ length bytes = whole_is (length bytes) o.value.1 w.value w.is in
    let both = takes_both (cursor_start bytes) (codes "XMCF") m.value (half_word (version_number o.value.0) ++ word_field o.value.1) o.after named o.takes in
    let P : Version × Place → Type 0 = λ x. Takes (cursor_start bytes) (codes "XMCF" ++ half_word (version_number x.0) ++ word_field (length bytes)) x.1 × IsWanted want x.0 in
    subst P (ok_is (o.value.0, o.after) got w.led)
    (subst (λ (n : ℕ). Takes (cursor_start bytes) (codes "XMCF" ++ half_word (version_number o.value.0) ++ word_field n) o.after) size both, o.is.0)
  where
    whole_is : (total size : ℕ) (all : Unit {0}) → is_whole total size ≡ Ok all → size ≡ total
    whole_is total size all is =
        let a = led_on (ltb total size) (fault.Short total) (cond (ltb size total) (Err (fault.Trailing size)) (Ok tt)) all is in
        let b = led_on (ltb size total) (fault.Trailing size) (Ok tt) all a.1 in
        omega (arith, ltb-false total size a.0, ltb-false size total b.0)

-- the first fields, where they stand
head_again : (want : Option Version) (v : Version) (bytes : List ℕ) (size : ℕ) (rest : List ℕ) → IsWanted want v → size < 2 ^ 32 → bytes ≡ head v size ++ rest
    → Reached (head_at want (cursor_start bytes)) (λ following. is_whole (length bytes) size >>= λ all. Ok (v, following)) rest
unfolding head_at head
head_again want v bytes size rest wants below is =
    let m = magic_again (cursor_start bytes) ((half_word (version_number v) ++ word_field size) ++ rest) is in
    let fields = then (first (version_spells want)) word_spells in
    let r = fields.again (Version × Place) (λ t following. is_whole (length bytes) t.1 >>= λ all. Ok (t.0, following)) m.after (v, size) rest (wants, below) m.ahead in
    record { after = r.after; is = rw m.is r.is; ahead = r.ahead }

-- fields that are read are a spelling
fields_takes : (v : Version) (bytes : List ℕ) (place : Place) (conf : Conf) → Takes (cursor_start bytes) (head v (length bytes)) place → fields_at v place ≡ Ok conf
    → (bytes ≡ xmc v conf) × IsSpelledConf v conf
unfolding fields_at
fields_takes v bytes place conf first e =
    let c = stepped (conf_body_at v place) (λ c. nothing_left c) conf e in
    let n = led_on (ltb 0 (left c.value.1)) (fault.Trailing c.value.1.at) (Ok c.value.0) conf c.led in
    let is : c.value.0 ≡ conf = ok_is c.value.0 conf n.1 in
    let second = (conf_spells v).takes place c.value.0 c.value.1 first.rest c.is in
    let none : ahead c.value.1 ≡ [] = nil_from_length (ahead c.value.1) (omega (arith, ltb-false 0 (left c.value.1) n.0)) in
    let both = takes_both (cursor_start bytes) (head v (length bytes)) place (body v c.value.0) c.value.1 first second.0 in
    let parts : bytes ≡ head v (length bytes) ++ body v c.value.0
    = both.parts ∙ ap (λ rest. (head v (length bytes) ++ body v c.value.0) ++ rest) none ∙ append-nil (head v (length bytes) ++ body v c.value.0) in
    let P : Conf → Type 0 = λ x. (bytes ≡ xmc v x) × IsSpelledConf v x in
    subst P is (text_of_whole v bytes c.value.0 parts, second.1)

-- fields that stand there are read
fields_again : (v : Version) (place : Place) (conf : Conf) → IsSpelledConf v conf → ahead place ≡ body v conf → fields_at v place ≡ Ok conf
unfolding fields_at
fields_again v place conf spelled is =
    let c = (conf_spells v).again place conf [] spelled (is ∙ sym (append-nil (body v conf))) in
    let none : ltb 0 (left c.after) ≡ false = ap (λ rest. ltb 0 (length rest)) c.ahead in
    rw (c.is, none) refl

-- what can be spelled is shorter than what its length field can state
pub xmc_short : FitsItsLength
xmc_short v conf spelled = omega (arith, length-xmc v conf, (body_short v conf spelled).is)

-- as many bytes as are stated
whole_same : (size : ℕ) → is_whole size size ≡ Ok tt
whole_same size = let same : ltb size size ≡ false = le-ltb size size (omega arith) in rw same refl

-- more bytes than are stated
whole_more : (total size : ℕ) → size < total → is_whole total size ≡ Err (fault.Trailing size)
whole_more total size less =
    let long : ltb total size ≡ false = le-ltb total size (omega (arith, less)) in
    let short : ltb size total ≡ true = lt-ltb size total less in
    rw (long, short) refl

-- fewer bytes than are stated
whole_less : (total size : ℕ) → total < size → is_whole total size ≡ Err (fault.Short total)
whole_less total size less = let test : ltb total size ≡ true = lt-ltb total size less in rw test refl

-- links that are spelled are those of a version
links_had : (v : Version) (links : List Link) → AreSpelledLinks v links → MayHaveLinks v links
links_had version.One links none = none
links_had version.Two links is = tt

-- what is read of bytes is what they spell
pub read_spelled : IsBrokenUnlessFits → ReadIsSpelled
unfolding read_within
read_spelled law want bytes conf each e =
    let h = stepped (head_at want (cursor_start bytes)) (λ head. fields_at head.0 head.1 >>= λ c. unbroken c (first_broken (parts_in_version head.0) (described c))) conf e in
    let v : Version = h.value.0 in
    let f = stepped (fields_at v h.value.1) (λ c. unbroken c (first_broken (parts_in_version v) (described c))) conf h.led in
    let u = was f.value (first_broken (parts_in_version v) (described f.value)) f.led in
    let head = head_takes want bytes h.value each h.is in
    let fields : fields_at v h.value.1 ≡ Ok conf = f.is ∙ ap (λ c. Ok c) u.0 in
    let t = fields_takes v bytes h.value.1 conf head.0 fields in
    let none : first_broken (parts_in_version v) (described conf) ≡ None = ap (λ c. first_broken (parts_in_version v) (described c)) (sym u.0) ∙ u.1 in
    (v, head.1, record { text = t.0; spelled = t.1; fits = record { fits = (law (parts_in_version v) (described conf)).0 none; links = links_had v conf.links t.1.links } })
  where
    was : (c : Conf) (broken : Option Broken) → unbroken c broken ≡ Ok conf → (c ≡ conf) × (broken ≡ None)
    was c None is = (ok_is c conf is, refl)
    was c (Some broken) is = absurd cc

-- a configuration that can be spelled and breaks no rule is read of its spelling
pub unbroken_read : (want : Option Version) (v : Version) (conf : Conf) → IsWanted want v → IsSpelledConf v conf → first_broken (parts_in_version v) (described conf) ≡ None
    → read_within want (xmc v conf) ≡ Ok conf
unfolding read_within
unbroken_read want v conf wants spelled none =
    let size : ℕ = 10 + length (body v conf) in
    let r = head_again want v (xmc v conf) size (body v conf) wants (omega (arith, xmc_short v conf spelled, length-xmc v conf)) (xmc_is v conf []).0 in
    let all : is_whole (length (xmc v conf)) size ≡ Ok tt = ap (λ n. is_whole n size) (length-xmc v conf) ∙ whole_same size in
    let fields : fields_at v r.after ≡ Ok conf = fields_again v r.after conf spelled r.ahead in
    rw (r.is, all, fields, none) refl

-- a configuration whose numbers are in the ranges of their fields, and which meets the rules, is read of its spelling
pub spelled_read : IsBrokenUnlessFits → SpelledIsRead
spelled_read law want v conf wants ranges fits = unbroken_read want v conf wants (spelled_if_fits v conf ranges fits) ((law (parts_in_version v) (described conf)).1 fits.fits)

-- a spelling in another version than the one that is wanted
pub other_refused : OtherIsRefused
unfolding read_within head_at wanted_version_at xmc head
other_refused v w conf differ =
    let total : ℕ = 10 + length (body w conf) in
    let following : List ℕ = word_field total ++ body w conf in
    let m = magic_again (cursor_start (xmc w conf)) ((half_word (version_number w) ++ word_field total) ++ body w conf) refl in
    let n = half_word_spells.again m.after (version_number w) following (number_small w) (m.ahead ∙ append_assoc (half_word (version_number w)) (word_field total) (body w conf)) in
    rw (m.is, n.is, wanted_other v w differ) refl

-- nothing is read of a spelling with something after it
pub more_trailing : MoreIsTrailing
unfolding read_within
more_trailing want v conf rest wants spelled some =
    let size : ℕ = 10 + length (body v conf) in
    let below : length (xmc v conf) < 2 ^ 32 = xmc_short v conf spelled in
    let r = head_again want v (xmc v conf ++ rest) size (body v conf ++ rest) wants (omega (arith, below, length-xmc v conf)) (xmc_is v conf rest).1 in
    let more : size < length (xmc v conf ++ rest) = omega (arith, length-xmc v conf, length-append (xmc v conf) rest, some_length rest some) in
    let all : is_whole (length (xmc v conf ++ rest)) size ≡ Err (fault.Trailing size) = whole_more (length (xmc v conf ++ rest)) size more in
    rw (r.is, all) (ap (λ n. Err (fault.Trailing n)) (sym (length-xmc v conf)))

-- a spelling that is cut after its length field is short where it ends
pub cut_short : CutIsShort
unfolding read_within
cut_short want v conf front rest wants spelled is some long =
    let size : ℕ = 10 + length (body v conf) in
    let below : length (xmc v conf) < 2 ^ 32 = xmc_short v conf spelled in
    let sum : size ≡ length front + length rest = sym (length-xmc v conf) ∙ ap length is ∙ length-append front rest in
    let begins : front ≡ head v size ++ take (length front - 10) (body v conf)
    = sym (take-append_seam front rest)
    ∙ ap (take (length front)) (sym is ∙ (xmc_is v conf []).0)
    ∙ ap (λ n. take n (head v size ++ body v conf)) (front_is v size (length front) long)
    ∙ take-append-add (head v size) (body v conf) (length front - 10) in
    let r = head_again want v front size (take (length front - 10) (body v conf)) wants (omega (arith, below, length-xmc v conf)) begins in
    let less : length front < size = omega (arith, sum, some_length rest some) in
    rw (r.is, whole_less (length front) size less) refl
