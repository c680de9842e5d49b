-- A small title for the worked examples: three segments of 6, 6 and 4.5 seconds, of which the first and the last are marked.
-- Its first variant holds the text `abc`, and each other one holds its own name.
use Rattle.std.specs.Prelude.{ℕ, ◌-◌, List, [], ◌∷◌, ◌++◌, map, take, set, codes, Result}
use Rattle.std.specs.List.{flat_map}
use Rattle.std.specs.Result.{result_unwrap_or}
use Rattle.hex.specs.Hex.{decode_of}
use Rattle.form_terms.specs.declared.fault.LineFault.{LineFault}
use Rattle.form_terms.specs.TextLines.{line}
use Rattle.playlist_terms.specs.Pair.{pair}
use Rattle.title_terms.specs.declared.fault.TitleKind.{TitleKind}
use Rattle.title_terms.specs.Designs.{Design}
use Rattle.title_terms.specs.Titles.{Title}
use Rattle.title_terms.specs.TitleText.{title_of}

abbrev pub pair_design : Design
pair_design = record { name = codes "pair"; bits = 4; dimension = 2; bound = 1; prefix = codes "v/"; suffix = codes ".ts"; marked = 0 ∷ 2 ∷ [] }

-- the lines of its text in front of the digests
abbrev pub pair_head : List (List ℕ)
pair_head =
    codes "title 1"
    ∷ codes "name pair"
    ∷ codes "m 4"
    ∷ codes "k 2"
    ∷ codes "c 1"
    ∷ codes "prefix v/"
    ∷ codes "suffix .ts"
    ∷ codes "version 3"
    ∷ codes "target 6"
    ∷ codes "sequence 0"
    ∷ codes "segments 3"
    ∷ codes "0 6000000 s0.ts"
    ∷ codes "0 6000000 s1.ts"
    ∷ codes "0 4500000 s2.ts"
    ∷ codes "marked 2"
    ∷ codes "0"
    ∷ codes "2"
    ∷ []

-- the lines of the digests
unfoldable pub pair_digests : List (List ℕ)
pair_digests =
    codes "ba7816bf8f01cfea414140de5dae2223b00361a396177a9cb410ff61f20015ad"
    ∷ codes "9664d6a32e2bf7c73459ddfb440ff9672b11f17ae2eb69a44dc8137ab223c91a"
    ∷ codes "764154a9c8786b0eb7fb54f88602f877c87df7bf849bcf8f8ba687e4e325d5df"
    ∷ codes "162ef72b96a9c6b7cc2150f0bdd76393cda8929671305302ac868e2c8f7b591a"
    ∷ codes "d5bb6137290957f62c2884f2262cbe47d192f11ee5fd78bd68e1e50dd47fcb96"
    ∷ codes "0edbefc7f0b3522d0c28d65094f7a9784ed5733beb9f473efb669010608b5eee"
    ∷ codes "173f1ac3681a87178baa78d5d85645106e3ae06fea5b1fa55fb9d3ba18531a87"
    ∷ codes "ef31015fa0c0a432a1534452f92df65c50e36290f5005a3155c6d37b9b025bf0"
    ∷ codes "73c3a39b10c8b4f4478ee4802ef53a99112ef6388ec63759639988225824ca60"
    ∷ codes "17e8ac2c50fcfc4a89aeb5f2aad94b44798eba6c9460b0072bce9c2a19d0df3c"
    ∷ codes "323c366986a33c30d48e0d01f765a5b6013a09ea488a2a7653389069a9026ad3"
    ∷ codes "2d4a4b5bbf6f932661e16770af3d914d082cd4424f7343c9b7f96e34bb670b8b"
    ∷ codes "e0e861538b5218aa16bff07ac18314497264b41f04f7caa57a39ac2de945e68f"
    ∷ codes "561ed3218612f75b916d112eb54628893b63c6d4f49ba3c6d405ee9e4930402d"
    ∷ codes "ac1514404567c2048a9c22795251acc443f111386fe2bce5e9de05614e2f269d"
    ∷ codes "f1ed86021ec544d0d698f537d81a1020d03294cd45f7db6f8967ed11d85ee96e"
    ∷ codes "ec0948f4726b88333f6374e55a70f5570eb407a03e027eba77c1789a5048efa0"
    ∷ codes "107ad0c7de98b2394b9b80e5e5b977eada90915f99ad810694858d2aef21214b"
    ∷ codes "f4750aa1c3e9d04a5170735d411b9afc6ca13487c76b363834735d805925f800"
    ∷ codes "036fa343a6ddae9b569a92bc41025427547d1197a46654fcffb727fd0eadcb0f"
    ∷ codes "06af61a7ff496d067d3ded3860f84688da5bb93774ce77a9b71355f9345eeb9c"
    ∷ codes "9e306320a17f6a6ded5cf9f9e63d7a9a9784e62d6d4cbc441f849f6cbacf0c57"
    ∷ codes "fc523149de96d71266fe9061d62644f63344c0121067bb1bc1d9b46e28ffd63a"
    ∷ codes "132a259b10f5406136c7217e53a9b9e069f433a176dc7c2b0cdaf0befc99be90"
    ∷ codes "28111f0b3ec0874b877eccb456fdce30716a015e4cb8ea1f1e3c5c9bfa621caa"
    ∷ codes "70e4de365665496f6c98d73d26fef5e4c02897c178db831a74475960ddab50c9"
    ∷ codes "ee24cc3102adb74f4ad1ed2e5713bacfd1904e73e5eba92f9df376e74abb1ce3"
    ∷ codes "8bd41723de8afbd4cd04ae04f8c1ddeeb48b23a29639901b42ee992bcd31cde0"
    ∷ codes "772f8500f92f332dc8cc871ee690a4dbf21d558091cbc5ee8f9e562237baf7b3"
    ∷ codes "551ad1afe0efdd0b981f528e50f27967d75704b7cc0054372123209dc31c92df"
    ∷ codes "06cbae7793ad3a98606c15d25137951bddc54131db403855d31a17c9a24d451c"
    ∷ codes "f13e324ec1afb878d3e831e9bf06b8abe380cbf6b1b4bccf3b542bcd468acbff"
    ∷ []

abbrev pub pair_lines : List (List ℕ)
pair_lines = pair_head ++ pair_digests

abbrev pub pair_title : Title
pair_title = record { design = pair_design; list = pair; digests = map (λ text. result_unwrap_or (decode_of text) []) pair_digests }

-- what the first so many of its lines are read as
abbrev pub first_lines_read : ℕ → Result Title (LineFault TitleKind)
first_lines_read n = title_of (flat_map line (take n pair_lines))

-- what its lines are read as with another text on the line of this number
abbrev pub read_with : ℕ → List ℕ → Result Title (LineFault TitleKind)
read_with number text = title_of (flat_map line (set pair_lines (number - 1) text))
