-- Five lists of demands, one behind the other.
use Rattle.std.proofs.Common.{◌≡◌, List, ◌++◌, None}
use Rattle.type_rules.specs.declared.error.TypeError.{TypeError}
use Rattle.type_rules.specs.Demands.{Demand, first_wrong, Fails}
use Rattle.type_rules.proofs.First.{holds_both, fails_front, fails_behind}

module _ (a b c d e : List Demand) where
  abbrev pub All : List Demand
  All = a ++ (b ++ (c ++ (d ++ e)))

  module _ (ha : first_wrong a ≡ None) where
    pub second_fails : (w : TypeError) → Fails b w → Fails All w
    second_fails w f = fails_behind a (b ++ (c ++ (d ++ e))) w ha (fails_front b (c ++ (d ++ e)) w f)

    module _ (hb : first_wrong b ≡ None) where
      pub third_fails : (w : TypeError) → Fails c w → Fails All w
      third_fails w f = fails_behind a (b ++ (c ++ (d ++ e))) w ha (fails_behind b (c ++ (d ++ e)) w hb (fails_front c (d ++ e) w f))

      module _ (hc : first_wrong c ≡ None) where
        pub fourth_fails : (w : TypeError) → Fails d w → Fails All w
        fourth_fails w f = fails_behind a (b ++ (c ++ (d ++ e))) w ha (fails_behind b (c ++ (d ++ e)) w hb (fails_behind c (d ++ e) w hc (fails_front d e w f)))

        module _ (hd : first_wrong d ≡ None) where
          pub fifth_fails : (w : TypeError) → Fails e w → Fails All w
          fifth_fails w f = fails_behind a (b ++ (c ++ (d ++ e))) w ha (fails_behind b (c ++ (d ++ e)) w hb (fails_behind c (d ++ e) w hc (fails_behind d e w hd f)))

          pub five_hold : first_wrong e ≡ None → first_wrong All ≡ None
          five_hold he = holds_both a (b ++ (c ++ (d ++ e))) ha (holds_both b (c ++ (d ++ e)) hb (holds_both c (d ++ e) hc (holds_both d e hd he)))
