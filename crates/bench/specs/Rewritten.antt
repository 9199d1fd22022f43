-- Texts that Arm takes, and the text that the profile of the unit is written as then. Assumes nothing.
use Prim.Native.String.{String}
use Rattle.std.specs.Prelude.{List, [], ◌∷◌}

pub record Rewrite : Type 0 where
  pub text : String
  pub written : String

unfoldable pub rewrites : List Rewrite
rewrites =
    -- a limit's leading zeros go, and the window is the one in force, at least 100
    record { text = "ABCD,rate_vol,XYZ,007,050"; written = "ABCD,rate_vol,XYZ,7,100\n" }
    -- whatever stands for an absolute rule's time limit goes, and so do empty fields at the end
    ∷ record { text = "AB,abs_vol,XYZ,10,whatever,,,\n"; written = "AB,abs_vol,XYZ,10\n" }
    -- the rules keep their order, the firm rule its level, the rule of one unit its call/put and month
    ∷ record {
      text = "AB,abs_count,Q1,010,,,P,F\nAB,rate_count,,5,86400000,T,\nAB,rate_ntnl,XYZ,100000000000,1";
      written = "AB,abs_count,Q1,10,,,P,F\nAB,rate_count,,5,86400000,T\nAB,rate_ntnl,XYZ,100000000000,100\n";
    }
    ∷ []
